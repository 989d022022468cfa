use Rattle.std.proofs.Common.{ℕ, List, Some, Err, sym, subst, ap, ◌∙◌}
use Rattle.std.proofs.lemmas.Result.{err_from_is_err_and}
use Rattle.table.specs.Walk.{Gives}
use Rattle.table.proofs.Scans.{scan_refused, scan_stopped, scan_taken, ok_or_ok, ok_or_err}
use Rattle.table.proofs.scan.scan.Goals as goal

pub returns-in_err-at : goal.returns-in_err-at
returns-in_err-at c =
    let s = c.loop-placed.placed-iterator in
    let p = err_from_is_err_and c.from_residual.result c.from_residual.ensures.1 in
    let g = subst (λ x. Gives s (Some x) c.next.new.self) c.in_err-at.was c.in-Some.ensures.steps in
    rw (p.1, p.2)
    (sym (scan_refused c.args.text.now s c.next.new.self _ c.loop-placed.state c.loop-placed.starts.places c.loop-placed.invariant.2 g) ∙ c.loop-placed.invariant.3)

pub returns-in_err-state : goal.returns-in_err-state
returns-in_err-state c =
    let s = c.loop-placed.placed-iterator in
    let p = err_from_is_err_and c.from_residual-in_err-state.result c.from_residual-in_err-state.ensures.1 in
    let g = subst (λ x. Gives s (Some x) c.next.new.self) c.in_ok-at.was c.in-Some.ensures.steps in
    let q = ok_or_err c.advance.result c.bad_row.result _ (sym c.ok_or.ensures.value ∙ c.in_err-state.was) in
    rw (p.1, p.2)
    (ap (λ f. Err f) (q.1 ∙ c.bad_row.ensures)
    ∙ sym (scan_stopped c.args.text.now s c.next.new.self (c.in_ok-at.at, c.in_ok-at.row) c.loop-placed.state c.loop-placed.starts.places c.loop-placed.invariant.2 g (sym c.advance.ensures ∙ q.0))
    ∙ c.loop-placed.invariant.3)

pub loop-placed-preserved : goal.loop-placed-preserved
loop-placed-preserved c =
    let s = c.loop-placed.placed-iterator in
    let t : List ℕ = c.args.text.now in
    let g = subst (λ x. Gives s (Some x) c.next.new.self) c.in_ok-at.was c.in-Some.ensures.steps in
    let q = ok_or_ok c.advance.result c.bad_row.result c.in_ok-state.state (sym c.ok_or.ensures.value ∙ c.in_ok-state.was) in (
      tt,
      tt,
      g.3 ∙ c.loop-placed.invariant.2,
      rw c.note.ensures
          (sym (scan_taken t s c.next.new.self (c.in_ok-at.at, c.in_ok-at.row) c.loop-placed.state c.in_ok-state.state c.loop-placed.starts.places c.loop-placed.invariant.2 g (sym c.advance.ensures ∙ q))
          ∙ c.loop-placed.invariant.3),
    )
