use Rattle.std.proofs.Common.{sym, ap, ◌∙◌}
use Rattle.std.proofs.lemmas.Result.{err_from_is_err_and}
use Rattle.table.specs.Notes.{starts_in}
use Rattle.table.specs.Outcomes.{scanned_err, examined_targets}
use Rattle.table.proofs.held.reader.examine.Goals as goal

pub returns-in_err-starts : goal.returns-in_err-starts
returns-in_err-starts c =
    let p = err_from_is_err_and c.from_residual.result c.from_residual.ensures.1 in
    rw (p.1, p.2) (sym (scanned_err c.args.text.now _ (sym c.scan.ensures ∙ ap starts_in c.in_err-starts.was)))

pub returns-in_err-check_targets : goal.returns-in_err-check_targets
returns-in_err-check_targets c =
    let p = err_from_is_err_and c.from_residual-in_err-check_targets.result c.from_residual-in_err-check_targets.ensures.1 in
    rw (p.1, p.2)
    (sym (examined_targets c.args.text.now c.in_ok-starts.starts.places _ (sym c.scan.ensures ∙ ap starts_in c.in_ok-starts.was) (sym c.in_err-check_targets.was ∙ c.check_targets.ensures)))

pub returns : goal.returns
returns c =
    sym (examined_targets c.args.text.now c.in_ok-starts.starts.places _ (sym c.scan.ensures ∙ ap starts_in c.in_ok-starts.was) (sym c.in_ok-check_targets.was ∙ c.check_targets.ensures))
