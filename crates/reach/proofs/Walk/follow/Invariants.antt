use Rattle.reach.specs.Walk.{aims}
use Rattle.reach.specs.Onward.{Onward}
use Rattle.reach.proofs.Walking.{TakenBelow}
use Rattle.reach.proofs.Walk.follow.Given as goal

abbrev pub invariant-loop-j : goal.invariant-loop-j
invariant-loop-j g l =
    Onward l.initial.self l.self ×
    TakenBelow (aims (g.G.SectionGraph.graph l.initial.self.graph.now) l.s) l.self.marks l.j
