use Rattle.std.proofs.Common.{◌≡◌, Err, refl, ap, sym, ◌∙◌, rules}
use Rattle.std.proofs.lemmas.Result.{err_from_is_err_and}
use Rattle.checklist.specs.Checks.{first_fault, each, answer}
use Rattle.std.specs.Result.{result_from_control_flow, IsErr, IsErrAnd}
use Rattle.rules.specs.Rules.{only_rule, first_where, of_kind}
use Rattle.reading.proofs.Walk.{walk_fold}
use Rattle.reading.proofs.only.Goals as goal

pub returns : goal.returns
returns c =
    let b = c.args.headers.bytes.now
    in let k = c.args.kind
    in walk_fold (λ v b. v ≡ result_from_control_flow b) (λ e r. IsErr r × IsErrAnd r (λ y. y ≡ e.0)) c.try_fold.ensures.ran (only_rule k b) (first_where (of_kind k b)) refl refl
    (λ v x e. e)
    (λ v r e p q. let w = err_from_is_err_and r q.1 in (w.0, p ∙ ap Err (sym w.2), w.1))
    (λ i v q k. (search rules, search rules))
    ∙ ap (λ n. answer (first_fault (each (only_rule k b) n)) (first_where (of_kind k b) n)) c.args.headers.headed.count_right
