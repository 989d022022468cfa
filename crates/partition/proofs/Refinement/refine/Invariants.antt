use Rattle.partition.proofs.Turns.{Refining}
use Rattle.partition.proofs.Refinement.refine.Given as goal

abbrev pub invariant-loop-s : goal.invariant-loop-s
invariant-loop-s g l = Refining (g.G.SectionGraph.graph l.self.graph.now) l.old l.new l.s
