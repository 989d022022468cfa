use Rattle.std.proofs.Common.{◌≤◌}
use Rattle.slots.specs.Turns.{stays_by, goes_by, slot_by, Turned}
use Rattle.slots.proofs.Slots.turn.Given as goal

abbrev pub invariant-loop-s : goal.invariant-loop-s
invariant-loop-s g l =
    (l.left ≤ l.s)
    × (l.gone ≤ l.s)
    × Turned (slot_by l.present.there g.rule) (stays_by l.present.there g.rule) (goes_by l.present.there g.rule) l.s l.initial.self l.self l.left l.gone
