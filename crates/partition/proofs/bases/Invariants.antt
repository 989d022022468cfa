use Rattle.partition.proofs.Leaders.{Filled}
use Rattle.partition.proofs.bases.Given as goal

abbrev pub invariant-loop-s : goal.invariant-loop-s
invariant-loop-s g l = Filled (g.G.SectionGraph.graph l.graph) l.bases l.s
