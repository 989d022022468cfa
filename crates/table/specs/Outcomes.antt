-- What a reader holds and answers after it has read a text.
use Rattle.std.specs.Prelude.{◌≡◌, ℕ, ◌+◌, Bool, true, false, cond, not, ◌⊎◌, List, [], ◌∷◌, length, is_some, Some, None, Ok, Err, Option, Result, refl}
use Rattle.std.proofs.Common.{sym, ap, subst, ◌∙◌, inl, inr, arith, zero-add}
use Rattle.std.specs.Option.{option_map, option_or}
use Rattle.std.proofs.lemmas.Bool.{eqb-true, eq-eqb, and_parts, and_from}
use Rattle.fault.specs.declared.Fault.{Fault}
use Rattle.fault.specs.Refusal.{ok_unless}
use Rattle.lines.specs.Lines.{lines, row_start, place_from, placed_after}
use Rattle.lines.proofs.Verdicts.{place_is}
use Rattle.row.specs.Reading.{read_row}
use Rattle.layout.specs.declared.State.{State}
use Rattle.layout.specs.declared.State.TheVariants.{Start}
use Rattle.layout.specs.Order.{is_done}
use Rattle.layout.specs.Reading.{step_line, bad_row, graph_of, dangling_from, bad_row_at, dangling_at, fault_of}
use Rattle.table.specs.Notes.{note, noted, no_notes, starts_of, scan_from, scan_after, scanned, targets_from}
use Rattle.table.specs.Held.{accepted, same_start, same_starts, held, noted_after, examined}
use Rattle.table.specs.Questions.{targets_right}

-- the walk notes all, or refuses at the place of the verdict
abbrev scan_result : Option ℕ → List (Option ℕ) → Result (List (Option ℕ)) Fault
scan_result None xs = Ok xs
scan_result (Some p) xs = Err (bad_row_at p)

scan_is : (at : ℕ) (ls : List (List ℕ)) (q : State) (xs : List (Option ℕ)) → scan_from at ls q xs ≡ scan_result (place_from step_line is_done at ls q) (noted at ls xs)
scan_is at [] q xs = go (is_done q)
  where
    go : (b : Bool) → cond b (Ok xs) (Err (bad_row_at at)) ≡ scan_result (cond b None (Some at)) xs
    go true = refl
    go false = refl
scan_is at (l ∷ ls) q xs = go (step_line q l) (λ p. scan_is (at + length l) ls p (note (read_row l) at xs))
  where
    go : (o : Option State)
        → ((p : State) → scan_from (at + length l) ls p (note (read_row l) at xs) ≡ scan_result (place_from step_line is_done (at + length l) ls p) (noted (at + length l) ls (note (read_row l) at xs)))
        → scan_after at (λ p. scan_from (at + length l) ls p (note (read_row l) at xs)) o
        ≡ scan_result (placed_after at (place_from step_line is_done (at + length l) ls) o) (noted (at + length l) ls (note (read_row l) at xs))
    go None deeper = refl
    go (Some p) deeper = deeper p

scanned_is : (t : List ℕ) → scanned t ≡ scan_result (option_map (λ k. 0 + row_start (lines t) k) (bad_row t)) (starts_of t)
scanned_is t =
    scan_is 0 (lines t) Start no_notes
    ∙ ap (λ (o : Option ℕ). scan_result o (starts_of t)) (place_is step_line is_done 0 (lines t) Start)

pub scanned_ok : (t : List ℕ) (xs : List (Option ℕ)) → scanned t ≡ Ok xs → (bad_row t ≡ None) × (xs ≡ starts_of t)
scanned_ok t xs h = go (bad_row t) (sym (scanned_is t) ∙ h)
  where
    go : (o : Option ℕ) → scan_result (option_map (λ k. 0 + row_start (lines t) k) o) (starts_of t) ≡ Ok xs → (o ≡ None) × (xs ≡ starts_of t)
    go None e = (refl, cc)
    go (Some k) e = absurd (let z : ◌≡◌ {A = ℕ} 0 1 = cc in omega arith)

pub scanned_err : (t : List ℕ) (f : Fault) → scanned t ≡ Err f → examined t ≡ Err f
scanned_err t f h = go (bad_row t) refl (sym (scanned_is t) ∙ h)
  where
    go : (o : Option ℕ) → bad_row t ≡ o → scan_result (option_map (λ k. 0 + row_start (lines t) k) o) (starts_of t) ≡ Err f → examined t ≡ Err f
    go None b e = absurd (let z : ◌≡◌ {A = ℕ} 0 1 = cc in omega arith)
    go (Some k) b e =
        let same : bad_row_at (0 + row_start (lines t) k) ≡ f = cc in
        ap (λ (o : Option ℕ). ok_unless (option_or (option_map (λ k. bad_row_at (row_start (lines t) k)) o) (option_map dangling_at (dangling_from (graph_of t) 0 (lines t)))) (starts_of t)) b
        ∙ ap Err (ap bad_row_at (sym (zero-add (row_start (lines t) k))) ∙ same)

-- past the first walk, the second decides

ok_unless_noted : (o : Option Fault) (xs : List (Option ℕ)) → ok_unless o xs ≡ noted_after (ok_unless o tt) xs
ok_unless_noted None xs = refl
ok_unless_noted (Some f) xs = refl

examined_formed : (t : List ℕ) (r : Result (Unit {0}) Fault) → bad_row t ≡ None → r ≡ targets_from (starts_of t) 0 (lines t)
    → examined t ≡ noted_after r (starts_of t)
examined_formed t r b e =
    ap (λ (v : Option ℕ). ok_unless (option_or (option_map (λ k. bad_row_at (row_start (lines t) k)) v) (option_map dangling_at (dangling_from (graph_of t) 0 (lines t)))) (starts_of t)) b
    ∙ ok_unless_noted (option_map dangling_at (dangling_from (graph_of t) 0 (lines t))) (starts_of t)
    ∙ ap (λ (v : Result (Unit {0}) Fault). noted_after v (starts_of t)) (sym (e ∙ targets_right t b))

-- what is held

same_itself : (p : Option ℕ) → same_start p p ≡ true
same_itself None = refl
same_itself (Some p) = eq-eqb p p refl

start_equal : (p q : Option ℕ) → same_start p q ≡ true → p ≡ q
start_equal None None h = refl
start_equal None (Some q) h = absurd (let z : ◌≡◌ {A = ℕ} 0 1 = cc in omega arith)
start_equal (Some p) None h = absurd (let z : ◌≡◌ {A = ℕ} 0 1 = cc in omega arith)
start_equal (Some p) (Some q) h = ap (λ (n : ℕ). Some n) (eqb-true p q h)

same_refl : (xs : List (Option ℕ)) → same_starts xs xs ≡ true
same_refl [] = refl
same_refl (x ∷ xs) = and_from _ _ (same_itself x) (same_refl xs)

same_equal : (xs ys : List (Option ℕ)) → same_starts xs ys ≡ true → xs ≡ ys
same_equal [] [] h = refl
same_equal [] (y ∷ ys) h = absurd (let z : ◌≡◌ {A = ℕ} 0 1 = cc in omega arith)
same_equal (x ∷ xs) [] h = absurd (let z : ◌≡◌ {A = ℕ} 0 1 = cc in omega arith)
same_equal (x ∷ xs) (y ∷ ys) h =
    let p = and_parts _ _ h in
    ap (λ (n : Option ℕ). n ∷ xs) (start_equal x y p.0) ∙ ap (λ (zs : List (Option ℕ)). y ∷ zs) (same_equal xs ys p.1)

pub held_parts : (t : List ℕ) (xs : List (Option ℕ)) → held t xs ≡ true → (accepted t ≡ true) × (xs ≡ starts_of t)
unfolding held
held_parts t xs h = let p = and_parts _ _ h in (p.0, same_equal xs (starts_of t) p.1)

accepted_some : (t : List ℕ) → fault_of t ≡ None → accepted t ≡ true
accepted_some [] h = refl
accepted_some (b ∷ t) h = ap (λ (o : Option Fault). not (is_some o)) h

pub held_read : (t : List ℕ) (xs : List (Option ℕ)) → fault_of t ≡ None → xs ≡ starts_of t → held t xs ≡ true
unfolding held
held_read t xs f e = and_from _ _ (accepted_some t f) (subst (λ (ys : List (Option ℕ)). same_starts ys (starts_of t) ≡ true) (sym e) (same_refl (starts_of t)))

pub held_none : held [] no_notes ≡ true
unfolding held
held_none = same_refl no_notes

accepted_none : (o : Option Fault) → not (is_some o) ≡ true → o ≡ None
accepted_none None h = refl
accepted_none (Some f) h = absurd (let z : ◌≡◌ {A = ℕ} 0 1 = cc in omega arith)

-- a text that is held is none, or accepted
pub held_cases : (t : List ℕ) → accepted t ≡ true → (t ≡ []) ⊎ (fault_of t ≡ None)
held_cases [] h = inl refl
held_cases (b ∷ t) h = inr (accepted_none (fault_of (b ∷ t)) h)

pub examined_ok : (t : List ℕ) (xs : List (Option ℕ)) → examined t ≡ Ok xs → (fault_of t ≡ None) × (xs ≡ starts_of t)
examined_ok t xs h = go (fault_of t) h
  where
    go : (o : Option Fault) → ok_unless o (starts_of t) ≡ Ok xs → (o ≡ None) × (xs ≡ starts_of t)
    go None e = (refl, cc)
    go (Some f) e = absurd (let z : ◌≡◌ {A = ℕ} 0 1 = cc in omega arith)

pub examined_err : (t : List ℕ) (f : Fault) → examined t ≡ Err f → fault_of t ≡ Some f
examined_err t f h = go (fault_of t) h
  where
    go : (o : Option Fault) → ok_unless o (starts_of t) ≡ Err f → o ≡ Some f
    go None e = absurd (let z : ◌≡◌ {A = ℕ} 0 1 = cc in omega arith)
    go (Some e) k = let same : e ≡ f = cc in ap (λ (x : Fault). Some x) same

-- what the second walk answered, where the notes are those of the first
pub examined_targets : (t : List ℕ) (xs : List (Option ℕ)) (r : Result (Unit {0}) Fault) → scanned t ≡ Ok xs → r ≡ targets_from xs 0 (lines t) → examined t ≡ noted_after r xs
examined_targets t xs r h e =
    let p = scanned_ok t xs h in
    examined_formed t r p.0 (e ∙ ap (λ (ys : List (Option ℕ)). targets_from ys 0 (lines t)) p.1)
    ∙ ap (noted_after r) (sym p.1)
