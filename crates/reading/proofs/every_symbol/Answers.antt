use Rattle.std.proofs.Common.{◌≡◌, Err, refl, ap, sym, ◌∙◌, rules}
use Rattle.std.proofs.lemmas.Result.{err_from_is_err_and}
use Rattle.std.specs.Result.{result_from_control_flow, IsErr, IsErrAnd}
use Rattle.rules.specs.Rules.{symbol_rule}
use Rattle.reading.proofs.Walk.{walk}
use Rattle.reading.proofs.every_symbol.Goals as goal

pub returns : goal.returns
returns c =
    walk (λ v b. v ≡ result_from_control_flow b) (λ e r. IsErr r × IsErrAnd r (λ y. y ≡ e.0)) c.try_for_each.ensures.ran (symbol_rule c.args.headers.bytes.now c.args.from) refl
    (λ v e. e)
    (λ v r e p q. let w = err_from_is_err_and r q.1 in (w.0, p ∙ ap Err (sym w.2), w.1))
    (λ i v q k. (search rules, search rules))
