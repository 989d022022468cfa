use Rattle.unfolding.specs.Reach.{reached}
use Rattle.reach.proofs.Walking.{fresh_inside}
use Rattle.reach.proofs.Walk.new.Goals as goal

pub invariant_of-result-clause-inside : goal.invariant_of-result-clause-inside
invariant_of-result-clause-inside g c = fresh_inside c.unmarked.result c.unmarked.ensures (reached (g.G.SectionGraph.graph c.args.graph.now))
