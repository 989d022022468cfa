use Rattle.summary.proofs.Sums.{Sums}
use Rattle.summary.proofs.summarize.Given as goal

abbrev pub invariant-loop-s : goal.invariant-loop-s
invariant-loop-s g l = Sums (g.G.SectionGraph.graph l.graph) l.s l.present l.pinned l.bytes l.relocations
