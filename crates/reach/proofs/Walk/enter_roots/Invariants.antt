use Rattle.model.specs.Graph.{root_of}
use Rattle.reach.specs.Onward.{Onward}
use Rattle.reach.proofs.Walking.{TakenBelow}
use Rattle.reach.proofs.Walk.enter_roots.Given as goal

abbrev pub invariant-loop-j : goal.invariant-loop-j
invariant-loop-j g l =
    Onward l.initial.self l.self ×
    TakenBelow (root_of (g.G.SectionGraph.graph l.initial.self.graph.now)) l.self.marks l.j
