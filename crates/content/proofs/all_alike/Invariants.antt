use Rattle.std.proofs.Common.{◌≡◌, Bool, drop}
use Rattle.model.specs.declared.Relocation.{Relocation}
use Rattle.model.specs.Graph.{section_of}
use Rattle.unfolding.specs.Depth.{same_list}
use Rattle.content.specs.Core.{Computes}
use Rattle.graph.specs.Bytes.{relocations_in}
use Rattle.content.proofs.all_alike.Given as goal

abbrev pub invariant-loop-j : goal.invariant-loop-j
invariant-loop-j g l =
    (test : Relocation → Relocation → Bool) →
    Computes (goal.F-post g l.alike) test →
    same_list
    test
    (drop l.j (relocations_in (section_of (g.G.SectionGraph.graph l.graph) l.s)))
    (drop l.j (relocations_in (section_of (g.G.SectionGraph.graph l.graph) l.t))) ≡
    same_list
    test
    (relocations_in (section_of (g.G.SectionGraph.graph l.graph) l.s))
    (relocations_in (section_of (g.G.SectionGraph.graph l.graph) l.t))
