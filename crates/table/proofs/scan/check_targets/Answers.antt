use Rattle.std.proofs.Common.{ℕ, Bool, cond, List, drop, Some, Err, sym, subst, ap, ◌∙◌}
use Rattle.std.proofs.lemmas.Result.{err_from_is_err_and}
use Rattle.lines.specs.Lines.{lines}
use Rattle.layout.specs.Reading.{dangling_at}
use Rattle.table.specs.Notes.{targets_from}
use Rattle.table.specs.Walk.{Gives}
use Rattle.table.proofs.Scans.{targets_refused, targets_taken}
use Rattle.table.proofs.scan.check_targets.Goals as goal

pub returns-in_err-at : goal.returns-in_err-at
returns-in_err-at c =
    let s = c.loop-placed.placed-iterator in
    let p = err_from_is_err_and c.from_residual.result c.from_residual.ensures.1 in
    let g = subst (λ x. Gives s (Some x) c.next.new.self) c.in_err-at.was c.in-Some.ensures.steps in
    rw (p.1, p.2)
    (sym (targets_refused c.args.starts.now.places c.args.text.now s c.next.new.self _ c.loop-placed.invariant.2 g) ∙ c.loop-placed.invariant.3)

pub returns-then-lack : goal.returns-then-lack
returns-then-lack c =
    let s = c.loop-placed.placed-iterator in
    let rest = c.next.new.self in
    let xs = c.args.starts.now.places in
    let t : List ℕ = c.args.text.now in
    let g = subst (λ x. Gives s (Some x) rest) c.in_ok-at.was c.in-Some.ensures.steps in
    ap Err c.dangling.ensures
    ∙ ap (λ (b : Bool). cond b (Err (dangling_at c.in_ok-at.at)) (targets_from xs rest.at (lines (drop rest.at t)))) c.if-lack.ensures
    ∙ sym (targets_taken xs t s rest (c.in_ok-at.at, c.in_ok-at.row) c.loop-placed.invariant.2 g)
    ∙ c.loop-placed.invariant.3

pub loop-placed-preserved : goal.loop-placed-preserved
loop-placed-preserved c =
    let s = c.loop-placed.placed-iterator in
    let rest = c.next.new.self in
    let xs = c.args.starts.now.places in
    let t : List ℕ = c.args.text.now in
    let g = subst (λ x. Gives s (Some x) rest) c.in_ok-at.was c.in-Some.ensures.steps in (
      tt,
      tt,
      g.3 ∙ c.loop-placed.invariant.2,
      ap (λ (b : Bool). cond b (Err (dangling_at c.in_ok-at.at)) (targets_from xs rest.at (lines (drop rest.at t)))) c.if-lack.ensures
          ∙ sym (targets_taken xs t s rest (c.in_ok-at.at, c.in_ok-at.row) c.loop-placed.invariant.2 g)
          ∙ c.loop-placed.invariant.3,
    )
