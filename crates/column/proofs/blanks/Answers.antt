use Rattle.std.proofs.Common.{◌≡◌, eqb, not, length, unwrap_or, ap, ◌∙◌, rules, tests}
use Rattle.std.specs.List.{position}
use Rattle.std.proofs.lemmas.Iterator.{YieldsList-from_slice}
use Rattle.std.proofs.lemmas.Iterator.Search.{position_from_yields_List}
use Rattle.column.proofs.blanks.Goals as goal

pub returns-clause-start : goal.returns-clause-start
returns-clause-start c =
    let first : c.position.result ≡ position (λ b. not (eqb b 32)) c.args.text.now =
    position_from_yields_List (λ b. not (eqb b 32)) _ _ c.position.result c.position.ensures.ran
    (YieldsList-from_slice c.args.text.now cc)
    (λ x b q k. search (rules, tests)) in
    c.unwrap_or.ensures ∙ ap (λ o. unwrap_or o (length c.args.text.now)) first
