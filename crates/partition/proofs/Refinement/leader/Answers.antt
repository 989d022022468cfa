use Rattle.std.proofs.Common.{get_or, rules}
use Rattle.partition.specs.Classes.{joined}
use Rattle.partition.proofs.Search.{found_from}
use Rattle.partition.proofs.Refinement.leader.Goals as goal

pub returns : goal.returns
returns g c =
    let here = c.args.self.now in
    rw c.unwrap_or.ensures
    (found_from (joined (g.G.SectionGraph.graph here.graph.now) here.bases.now c.args.old.now c.args.new.now c.args.s) _ (get_or c.args.old.now c.args.s 0) c.args.s _
    (λ t b l h k. search rules)
    c.lowest.ensures.lowest)
