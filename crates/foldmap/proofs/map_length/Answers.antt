use Rattle.std.proofs.Common.{ℕ, List, length, ◌^◌, ap, ◌∙◌, arith, rules}
use Rattle.std.specs.List.{range_with_len}
use Rattle.std.proofs.lemmas.Iterator.{YieldsList-from_range, YieldsList-from_map}
use Rattle.std.proofs.lemmas.Iterator.Consumers.{sum_by_from_yields_List}
use Rattle.std.proofs.lemmas.Iterator.Adapters.{fits_from_length, at_most_from_yields_List}
use Rattle.std.proofs.lemmas.List.FromFn.{length-range_with_len}
use Rattle.runs.specs.State.{place_of}
use Rattle.ledger.specs.Told.{told}
use Rattle.pieces.specs.Writes.{pieces}
use Rattle.pieces.proofs.Writing.{lengths_added}
use Rattle.foldmap.specs.Map.{told_of, row_of}
use Rattle.foldmap.proofs.map_length.Goals as goal

-- fewer than 65,536 sections, and each row is no longer than 38
pub sum-requires-clause-fits : goal.sum-requires-clause-fits
sum-requires-clause-fits g c =
    let n = c.count.result in
    fits_from_length _ _ 65536 (2 ^ 64) (at_most_from_yields_List (YieldsList-from_range 0 n n c.map.ensures.source (omega arith)) (omega (arith, length-range_with_len 0 n))) c.map.ensures.closure (omega arith)
    (λ x r q k. search rules)

pub returns : goal.returns
returns g c =
    let st = told (g.G.SectionGraph.graph c.args.pile.now.below) c.args.pile.now.table in
    let piece : ℕ → List ℕ = λ s. row_of s (told_of s (place_of st s)) in
    let n = c.count.result in
    sum_by_from_yields_List (λ s. length (piece s)) (range_with_len 0 n) c.map.result c.sum.result c.sum.ensures.ran
    (YieldsList-from_map _ (λ s. length (piece s)) (YieldsList-from_range 0 n n c.map.ensures.source (omega arith)) c.map.ensures.closure (λ s r q k. search rules))
    ∙ lengths_added piece n
    ∙ ap (λ k. length (pieces piece k)) c.count.ensures
