use Rattle.std.proofs.Common.{◌≡◌, ℕ, ◌<◌}
use Rattle.model.specs.Graph.{byte_of}
use Rattle.graph.proofs.SectionGraph.same_bytes.Given as goal

abbrev pub invariant-loop-i : goal.invariant-loop-i
invariant-loop-i g l =
    (k : ℕ) → k < l.i → byte_of (g.Self.SectionGraph.graph l.self) l.s k ≡ byte_of (g.Self.SectionGraph.graph l.self) l.t k
