use Rattle.std.proofs.Common.{◌≡◌, suc, ◌-◌}
use Rattle.runs.specs.State.{found_at, followed}
use Rattle.slots.proofs.Slots.follow.Given as goal

abbrev pub invariant-loop : goal.invariant-loop
invariant-loop l = followed (suc l.s - l.counter) l.self.list l.at ≡ found_at l.self.list l.s
