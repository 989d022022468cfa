use Rattle.std.proofs.Common.{◌≡◌, map, drop}
use Rattle.model.specs.Graph.{section_of}
use Rattle.content.specs.Core.{bare, mixed_arms, core_of, digest_core}
use Rattle.graph.specs.Bytes.{relocations_in}
use Rattle.content.proofs.content_digest.Given as goal

abbrev pub invariant-loop-j : goal.invariant-loop-j
invariant-loop-j g l =
    mixed_arms l.digest (map bare (drop l.j (relocations_in (section_of (g.G.SectionGraph.graph l.graph) l.s)))) ≡
    digest_core (core_of (section_of (g.G.SectionGraph.graph l.graph) l.s))
