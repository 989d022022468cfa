use Rattle.std.proofs.Common.{◌≡◌, ◌^◌, ◌∙◌, arith, rules}
use Rattle.std.specs.List.{range_with_len}
use Rattle.std.proofs.lemmas.Iterator.{YieldsList-from_range, YieldsList-from_map}
use Rattle.std.proofs.lemmas.Iterator.Consumers.{sum_by_from_yields_List}
use Rattle.std.proofs.lemmas.Iterator.Adapters.{fits_from_length, at_most_from_yields_List}
use Rattle.std.proofs.lemmas.List.FromFn.{length-range_with_len}
use Rattle.table_writer.proofs.Lengths.{sections_length, length_at, lengths_added, table_length}
use Rattle.table_writer.proofs.sections_length.Goals as goal

-- at most 1,024 sections, and the rows of each are no longer than 5,000,000
pub sum-requires-clause-fits : goal.sum-requires-clause-fits
sum-requires-clause-fits g c =
    let v = g.met.G.SectionGraph.valid c.args.graph.now in
    let n = c.count.result in
    fits_from_length _ _ 1024 (2 ^ 64) (at_most_from_yields_List (YieldsList-from_range 0 n n c.map.ensures.source (omega arith)) (omega (arith, length-range_with_len 0 n, c.count.ensures, v.few))) c.map.ensures.closure (omega arith)
    (λ x r q k. search rules)

pub returns : goal.returns
returns g c =
    let x = g.G.SectionGraph.graph c.args.graph.now in
    let v = g.met.G.SectionGraph.valid c.args.graph.now in
    let n = c.count.result in
    let source = YieldsList-from_range 0 n n c.map.ensures.source (omega arith) in
    let all : c.sum.result ≡ sections_length x.sections =
    sum_by_from_yields_List (length_at x.sections) (range_with_len 0 n) c.map.result c.sum.result c.sum.ensures.ran
    (YieldsList-from_map _ (length_at x.sections) source c.map.ensures.closure (λ s r q k. search rules))
    ∙ lengths_added x.sections n c.count.ensures in
    let run = c.sum.ensures.runs tt in
    let few =
    fits_from_length _ _ 1024 5120000001 (at_most_from_yields_List source (omega (arith, length-range_with_len 0 n, c.count.ensures, v.few))) c.map.ensures.closure (omega arith) (λ s r q k. search rules)
    run.0 run.0.seen run.1 in
    record { table = omega (arith, all, table_length x v); few = omega (arith, few, run.3) }
