use Rattle.std.proofs.Common.{◌≡◌, drop}
use Rattle.graph.specs.Bytes.{bytes_of, digest_from, digest}
use Rattle.graph.proofs.SectionGraph.byte_digest.Given as goal

abbrev pub invariant-loop-i : goal.invariant-loop-i
invariant-loop-i g l =
    digest_from l.digest (drop l.i (bytes_of (g.Self.SectionGraph.graph l.self) l.s)) ≡
    digest (bytes_of (g.Self.SectionGraph.graph l.self) l.s)
