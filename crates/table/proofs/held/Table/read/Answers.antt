use Rattle.std.proofs.Common.{ℕ, List, Err, vec_items, Option, sym, ap, ◌∙◌}
use Rattle.std.proofs.lemmas.Result.{err_from_is_err_and}
use Rattle.fault.specs.declared.Fault.{Fault}
use Rattle.fault.specs.Refusal.{ok_unless}
use Rattle.layout.proofs.Texts.{verdict_stands}
use Rattle.table.specs.Held.{examined}
use Rattle.table.specs.Notes.{starts_in}
use Rattle.table.specs.Meaning.{text_held, text_after}
use Rattle.table.specs.Outcomes.{examined_ok, examined_err, held_read}
use Rattle.table.proofs.held.Table.read.Goals as goal

pub returns-in_err-starts : goal.returns-in_err-starts
returns-in_err-starts c =
    let t : List ℕ = vec_items c.args.text in
    let p = err_from_is_err_and c.from_residual.result c.from_residual.ensures.1 in
    let e = examined_err t _ (sym (c.examine.ensures ∙ ap examined c.as_slice.ensures.value) ∙ ap starts_in c.in_err-starts.was) in
    record {
      answer = p.1 ∙ ap Err p.2 ∙ ap (λ (o : Option Fault). ok_unless o tt) (sym e);
      holds = ap (λ (o : Option Fault). text_after o t (text_held c.args.self.now)) (sym e);
      verdict = verdict_stands t;
    }

pub invariant_of-self : goal.invariant_of-self
invariant_of-self c =
    let t : List ℕ = vec_items c.args.text in
    let e = examined_ok t c.in_ok-starts.starts.places (sym (c.examine.ensures ∙ ap examined c.as_slice.ensures.value) ∙ ap starts_in c.in_ok-starts.was) in
    record { fit = held_read t c.in_ok-starts.starts.places e.0 e.1 }

pub returns : goal.returns
returns c =
    let t : List ℕ = vec_items c.args.text in
    let e = examined_ok t c.in_ok-starts.starts.places (sym (c.examine.ensures ∙ ap examined c.as_slice.ensures.value) ∙ ap starts_in c.in_ok-starts.was) in
    record {
      answer = ap (λ (o : Option Fault). ok_unless o tt) (sym e.0);
      holds = ap (λ (o : Option Fault). text_after o t (text_held c.args.self.now)) (sym e.0);
      verdict = verdict_stands t;
    }
