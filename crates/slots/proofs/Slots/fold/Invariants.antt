use Rattle.slots.specs.Turns.{fold_rule}
use Rattle.slots.proofs.Slots.fold.Given as goal

abbrev pub ghost-turn : goal.ghost-turn
ghost-turn a = fold_rule a.choose.0.now
