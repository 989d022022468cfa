use Rattle.std.proofs.Common.{◌≡◌, drop}
use Rattle.graph.specs.Bytes.{digest_from, digest}
use Rattle.object.proofs.held.digest_of.Given as goal

abbrev pub invariant-loop-x : goal.invariant-loop-x
invariant-loop-x l = digest_from l.digest (drop l.x-index l.bytes) ≡ digest l.bytes
