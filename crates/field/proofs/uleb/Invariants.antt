use Rattle.std.proofs.Common.{◌≡◌, ◌^◌, ◌<◌, ◌≤◌, drop}
use Rattle.field.specs.Uleb.{number_at}
use Rattle.field.proofs.Onward.{pending}
use Rattle.field.proofs.uleb.Given as goal

-- the number so far and the bytes that are left tell the number
abbrev pub invariant-loop-x : goal.invariant-loop-x
invariant-loop-x l =
    (l.n.taken ≤ 4)
    × (l.n.value < 128 ^ l.n.taken)
    × (pending l.n.taken l.n.value l.first (drop l.x-index l.bytes) ≡ number_at l.bytes l.first)
