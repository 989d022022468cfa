use Rattle.std.proofs.Common.{rules}
use Rattle.partition.specs.Classes.{based}
use Rattle.partition.proofs.Search.{found_from}
use Rattle.partition.proofs.Sought.leader.Goals as goal

pub returns : goal.returns
returns g c =
    let sought = c.args.self.now in
    rw c.unwrap_or.ensures
    (found_from (based (g.G.SectionGraph.graph sought.graph.now) sought.bases.now sought.section) _ 0 sought.section _
    (λ t b l h k. search rules)
    c.lowest.ensures.lowest)
