use Rattle.slots.specs.Turns.{sweep_rule}
use Rattle.slots.proofs.Slots.sweep.Given as goal

abbrev pub ghost-turn : goal.ghost-turn
ghost-turn a = sweep_rule a.choose.0.now
