use Rattle.partition.specs.Classes.{Turn}
use Rattle.partition.proofs.partition.Given as goal

abbrev pub invariant-loop-k : goal.invariant-loop-k
invariant-loop-k g l = Turn (g.G.SectionGraph.graph l.graph) l.k l.class
