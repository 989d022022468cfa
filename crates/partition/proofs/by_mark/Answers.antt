use Rattle.std.proofs.Common.{rules}
use Rattle.unfolding.specs.Groups.{foldable}
use Rattle.partition.specs.Classes.{marked_class}
use Rattle.partition.proofs.Search.{found_from}
use Rattle.partition.proofs.Filled.{from_fn_at}
use Rattle.partition.proofs.Turns.{marked_classes}
use Rattle.partition.proofs.by_mark.Goals as goal

pub returns : goal.returns
returns g c =
    let x = g.G.SectionGraph.graph c.args.graph.now in
    marked_classes x c.lowest-first.result c.from_fn.result
    (found_from (foldable x) _ 0 1024 _ (λ t b l h k. search rules) c.lowest-first.ensures.lowest)
    c.from_fn.ensures.items.long
    (from_fn_at (marked_class x c.lowest-first.result) _ c.from_fn.result 1024 (λ i y q l k. (search rules, search rules)) c.from_fn.ensures.items)
