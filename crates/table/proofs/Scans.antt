-- The two walks over a text, row by row.
use Rattle.std.proofs.Common.{◌≡◌, ℕ, ◌+◌, ◌<◌, cond, List, ◌∷◌, length, drop, Some, None, Ok, Err, Option, Result, ok_or, sym, refl, ap, ◌∙◌, arith}
use Rattle.std.proofs.lemmas.List.{drop-drop, length-drop}
use Rattle.lines.specs.Lines.{lines}
use Rattle.row.specs.declared.Cause.{Cause}
use Rattle.row.specs.Entry.{Entry, render}
use Rattle.row.specs.Reading.{read_row}
use Rattle.fault.specs.declared.Fault.{Fault}
use Rattle.row.specs.declared.Row.{Row}
use Rattle.row.specs.Told.{told}
use Rattle.table.specs.declared.scan.Rows.{Rows}
use Rattle.table.specs.Walk.{Gives}
use Rattle.row.proofs.Rows.{row_only}
use Rattle.layout.specs.declared.State.{State}
use Rattle.layout.specs.Order.{step}
use Rattle.layout.specs.Reading.{step_read, named, bad_row_at, dangling_at}
use Rattle.layout.proofs.Texts.{row_itself}
use Rattle.table.specs.Notes.{note_entry, note, scan_from, scan_after, unnoted, target_on, targets_from}
use Rattle.table.proofs.Turns.{first_taken, first_refused}

-- what is found behind an `ok_or`

pub ok_or_ok : {A : Type 0} (o : Option A) (f : Fault) (x : A) → ok_or o f ≡ Ok x → o ≡ Some x
ok_or_ok None f x e = absurd (let z : ◌≡◌ {A = ℕ} 0 1 = cc in omega arith)
ok_or_ok (Some y) f x e = let same : y ≡ x = cc in ap (λ z. Some z) same

pub ok_or_err : {A : Type 0} (o : Option A) (f g : Fault) → ok_or o f ≡ Err g → (o ≡ None) × (g ≡ f)
ok_or_err None f g e = let same : g ≡ f = cc in (refl, same)
ok_or_err (Some y) f g e = absurd (let z : ◌≡◌ {A = ℕ} 0 1 = cc in omega arith)

-- a turn: the row that is given is the first line of those that are left, or its refusal is that of this line

given_row : (t : List ℕ) (s rest : Rows) (p : ℕ × Row) → s.text.now ≡ t → Gives s (Some (Ok p)) rest
    → (lines (drop s.at t) ≡ render (told p.1) ∷ lines (drop rest.at t)) × (read_row (render (told p.1)) ≡ Ok (told p.1)) × (rest.at ≡ s.at + length (render (told p.1)))
given_row t s rest p e g =
    let w : ℕ = length (render (told p.1)) in
    let here : read_row (drop s.at t) ≡ Ok (told p.1) = ap (λ (u : List ℕ). read_row (drop s.at u)) (sym e) ∙ g.2 in (
      first_taken (drop s.at t) (told p.1) here
          ∙ ap (λ (u : List ℕ). render (told p.1) ∷ lines u) (drop-drop w s.at t ∙ ap (λ (n : ℕ). drop n t) (sym g.4)),
      row_itself (told p.1) (row_only (drop s.at t) (told p.1) here).0,
      g.4,
    )

given_refusal : (t : List ℕ) (s rest : Rows) (f : Fault) → s.text.now ≡ t → Gives s (Some (Err f)) rest
    → (l : List ℕ) × (ls : List (List ℕ)) × (lines (drop s.at t) ≡ l ∷ ls) × ((d : Cause) × (read_row l ≡ Err d))
given_refusal t s rest f e g =
    let some : 0 < length (drop s.at t) = omega (arith, g.0, ap length e, length-drop s.at t) in
    first_refused (drop s.at t) g.2.0 some (ap (λ (u : List ℕ). read_row (drop s.at u)) (sym e) ∙ g.2.1)

-- the first walk

pub scan_refused : (t : List ℕ) (s rest : Rows) (f : Fault) (q : State) (xs : List (Option ℕ)) → s.text.now ≡ t → Gives s (Some (Err f)) rest
    → scan_from s.at (lines (drop s.at t)) q xs ≡ Err f
scan_refused t s rest f q xs e g =
    let r = given_refusal t s rest f e g in
    ap (λ (ls : List (List ℕ)). scan_from s.at ls q xs) r.2
    ∙ ap (scan_after s.at (λ p. scan_from (s.at + length r.0) r.1 p (note (read_row r.0) s.at xs))) (ap (step_read q) r.3.1)
    ∙ ap Err (sym g.1)

scan_turn : (t : List ℕ) (s rest : Rows) (p : ℕ × Row) (q : State) (xs : List (Option ℕ)) → s.text.now ≡ t → Gives s (Some (Ok p)) rest
    → scan_from s.at (lines (drop s.at t)) q xs ≡ scan_after p.0 (λ next. scan_from rest.at (lines (drop rest.at t)) next (note_entry (told p.1) p.0 xs)) (step q (told p.1))
scan_turn t s rest p q xs e g =
    let r = given_row t s rest p e g in
    let row : List ℕ = render (told p.1) in
    let more : List (List ℕ) = lines (drop rest.at t) in
    ap (λ (ls : List (List ℕ)). scan_from s.at ls q xs) r.0
    ∙ ap (λ (x : Result Entry Cause). scan_after s.at (λ next. scan_from (s.at + length row) more next (note x s.at xs)) (step_read q x)) r.1
    ∙ ap (λ (n : ℕ). scan_after s.at (λ next. scan_from n more next (note_entry (told p.1) s.at xs)) (step q (told p.1))) (sym r.2)
    ∙ ap (λ (at : ℕ). scan_after at (λ next. scan_from rest.at more next (note_entry (told p.1) at xs)) (step q (told p.1))) (sym g.1)

pub scan_stopped : (t : List ℕ) (s rest : Rows) (p : ℕ × Row) (q : State) (xs : List (Option ℕ)) → s.text.now ≡ t → Gives s (Some (Ok p)) rest
    → step q (told p.1) ≡ None → scan_from s.at (lines (drop s.at t)) q xs ≡ Err (bad_row_at p.0)
scan_stopped t s rest p q xs e g none =
    scan_turn t s rest p q xs e g
    ∙ ap (scan_after p.0 (λ next. scan_from rest.at (lines (drop rest.at t)) next (note_entry (told p.1) p.0 xs))) none

pub scan_taken : (t : List ℕ) (s rest : Rows) (p : ℕ × Row) (q next : State) (xs : List (Option ℕ)) → s.text.now ≡ t → Gives s (Some (Ok p)) rest
    → step q (told p.1) ≡ Some next
    → scan_from s.at (lines (drop s.at t)) q xs ≡ scan_from rest.at (lines (drop rest.at t)) next (note_entry (told p.1) p.0 xs)
scan_taken t s rest p q next xs e g some =
    scan_turn t s rest p q xs e g
    ∙ ap (scan_after p.0 (λ next. scan_from rest.at (lines (drop rest.at t)) next (note_entry (told p.1) p.0 xs))) some

-- the second walk

pub targets_refused : (xs : List (Option ℕ)) (t : List ℕ) (s rest : Rows) (f : Fault) → s.text.now ≡ t → Gives s (Some (Err f)) rest
    → targets_from xs s.at (lines (drop s.at t)) ≡ Err f
targets_refused xs t s rest f e g =
    let r = given_refusal t s rest f e g in
    ap (targets_from xs s.at) r.2
    ∙ ap (target_on xs s.at (targets_from xs (s.at + length r.0) r.1)) r.3.1
    ∙ ap Err (sym g.1)

pub targets_taken : (xs : List (Option ℕ)) (t : List ℕ) (s rest : Rows) (p : ℕ × Row) → s.text.now ≡ t → Gives s (Some (Ok p)) rest
    → targets_from xs s.at (lines (drop s.at t)) ≡ cond (unnoted xs (named (told p.1))) (Err (dangling_at p.0)) (targets_from xs rest.at (lines (drop rest.at t)))
targets_taken xs t s rest p e g =
    let r = given_row t s rest p e g in
    let more : List (List ℕ) = lines (drop rest.at t) in
    ap (targets_from xs s.at) r.0
    ∙ ap (target_on xs s.at (targets_from xs (s.at + length (render (told p.1))) more)) r.1
    ∙ ap (λ (n : ℕ). cond (unnoted xs (named (told p.1))) (Err (dangling_at s.at)) (targets_from xs n more)) (sym r.2)
    ∙ ap (λ (at : ℕ). cond (unnoted xs (named (told p.1))) (Err (dangling_at at)) (targets_from xs rest.at more)) (sym g.1)
