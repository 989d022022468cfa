use Rattle.std.proofs.Common.{ℕ, ◌*◌, Bool, is_some, ap, ◌∙◌, arith, rules, tests}
use Rattle.std.specs.List.{range_with_len}
use Rattle.std.proofs.lemmas.List.Sums.{length-filter}
use Rattle.std.proofs.lemmas.Iterator.{YieldsList-from_range}
use Rattle.std.proofs.lemmas.Iterator.Consumers.{YieldsList-from_filter, count_from_yields_List}
use Rattle.fates.specs.Maps.{fate_of}
use Rattle.fates.proofs.FoldMap.row_start.Goals as goal

pub returns : goal.returns
returns c =
    let test : ℕ → Bool = λ t. is_some (fate_of c.args.self.now.fates t) in
    let n = c.args.s in
    ap (λ k. 38 * k)
    (
    count_from_yields_List c.filter.result c.count.result c.count.ensures.ran
    (YieldsList-from_filter _ test (YieldsList-from_range 0 n n c.filter.ensures.source (omega arith)) c.filter.ensures.closure (λ x r q k. search (rules, tests)))
    ∙ length-filter test (range_with_len 0 n)
    )
