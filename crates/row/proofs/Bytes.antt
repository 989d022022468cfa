-- How the bytes of a B row are counted, one column after another.
use Rattle.std.proofs.Common.{◌≡◌, ℕ, suc, ◌+◌, ◌-◌, ◌*◌, ◌<◌, eqb, List, [], ◌∷◌, length, get_or, Ok, Err, Result, sym, refl, ap, ◌∙◌, subst, arith}
use Rattle.std.proofs.lemmas.Bool.{cond-true, cond-false, eq-eqb, ne_eqb}
use Rattle.row_part.specs.declared.Cause.{Cause}
use Rattle.row_part.specs.Parts.{and_then, natural_at, end_at}
use Rattle.row.specs.Reading.{counted, more_bytes, row_bytes}

abbrev pub plus : ℕ → Result ℕ Cause → Result ℕ Cause
plus k (Ok n) = Ok (k + n)
plus k (Err e) = Err e

plus_plus : (k : ℕ) (r : Result ℕ Cause) → plus k (plus 1 r) ≡ plus (k + 1) r
plus_plus k (Ok n) = let e : k + (1 + n) ≡ (k + 1) + n = omega arith in ap (λ (x : ℕ). Ok x) e
plus_plus k (Err e) = refl

-- one byte before the others
counted_push : (b : ℕ) (r : Result (List ℕ) Cause) → counted (and_then r λ bs. Ok (b ∷ bs)) ≡ plus 1 (counted r)
counted_push b (Ok bs) = let e : suc (length bs) ≡ 1 + length bs = omega arith in ap (λ (x : ℕ). Ok x) e
counted_push b (Err e) = refl

-- k bytes are counted, and the others follow
abbrev pub Counting : List ℕ → ℕ → Type 0
Counting t k = counted (row_bytes t) ≡ plus k (counted (more_bytes (16 - k) t (1 + 4 * k)))

pub count_starts : (t : List ℕ) (b : ℕ) → Ok b ≡ natural_at 4 t 1 255 → Counting t 1
count_starts t b h = rw (← h) (counted_push b (more_bytes 15 t 5))

-- where more bytes may come after k
module _ (t : List ℕ) (k : ℕ) (some : k < 16) where
  left : 16 - k ≡ suc (15 - k)
  left = omega arith

  count_stops : get_or t (1 + 4 * k) 0 ≡ 10 → plus k (counted (more_bytes (16 - k) t (1 + 4 * k))) ≡ Ok k
  unfolding more_bytes
  count_stops h =
      let e : k + 0 ≡ k = omega arith in
      rw left
      (
      ap (λ r. plus k (counted r)) (cond-true (eqb (get_or t (1 + 4 * k) 0) 10) _ _ (eq-eqb _ 10 h)) ∙ ap (λ (x : ℕ). Ok x) e
      )

  count_fails : (e : Cause)
      → (get_or t (1 + 4 * k) 0 ≡ 10 → ⊥)
      → natural_at 4 t (1 + 4 * k) 255 ≡ Err e
      → plus k (counted (more_bytes (16 - k) t (1 + 4 * k))) ≡ Err e
  unfolding more_bytes
  count_fails e other h =
      rw left
      (
      ap (λ r. plus k (counted r)) (cond-false (eqb (get_or t (1 + 4 * k) 0) 10) _ _ (ne_eqb _ 10 other))
      ∙ ap (λ r. plus k (counted (and_then r λ b. and_then (more_bytes (15 - k) t (1 + 4 * k + 4)) λ bs. Ok (b ∷ bs)))) h
      )

  count_more : (b : ℕ)
      → (get_or t (1 + 4 * k) 0 ≡ 10 → ⊥)
      → natural_at 4 t (1 + 4 * k) 255 ≡ Ok b
      → plus k (counted (more_bytes (16 - k) t (1 + 4 * k)))
      ≡ plus (k + 1) (counted (more_bytes (16 - (k + 1)) t (1 + 4 * (k + 1))))
  unfolding more_bytes
  count_more b other h =
      let less : 16 - (k + 1) ≡ 15 - k = omega arith in
      let at : 1 + 4 * (k + 1) ≡ 1 + 4 * k + 4 = omega arith in
      rw (left, less, at)
      (
      ap (λ r. plus k (counted r)) (cond-false (eqb (get_or t (1 + 4 * k) 0) 10) _ _ (ne_eqb _ 10 other))
      ∙ ap (λ r. plus k (counted (and_then r λ b. and_then (more_bytes (15 - k) t (1 + 4 * k + 4)) λ bs. Ok (b ∷ bs)))) h
      ∙ ap (plus k) (counted_push b (more_bytes (15 - k) t (1 + 4 * k + 4)))
      ∙ plus_plus k (counted (more_bytes (15 - k) t (1 + 4 * k + 4)))
      )

-- the same as the code has it: f is k, and x is the byte where column k starts
module _ (t : List ℕ) (k f x : ℕ) (some : k < 16) (inv : Counting t k) (same : f ≡ k) (first : x ≡ get_or t (1 + 4 * f) 0) where
  here : x ≡ get_or t (1 + 4 * k) 0
  here = first ∙ ap (λ n. get_or t (1 + 4 * n) 0) same

  pub stops : x ≡ 10 → Ok k ≡ counted (row_bytes t)
  stops ten = sym (inv ∙ count_stops t k some (sym here ∙ ten))

  pub fails : (e : Cause) → (x ≡ 10 → ⊥) → Err e ≡ natural_at 4 t (1 + 4 * f) 255 → Err e ≡ counted (row_bytes t)
  fails e other h =
      let bad = sym (h ∙ ap (λ n. natural_at 4 t (1 + 4 * n) 255) same) in
      sym (inv ∙ count_fails t k some e (λ ten. other (here ∙ ten)) bad)

  pub more : (b : ℕ) → (x ≡ 10 → ⊥) → Ok b ≡ natural_at 4 t (1 + 4 * f) 255 → Counting t (k + 1)
  more b other h =
      let good = sym (h ∙ ap (λ n. natural_at 4 t (1 + 4 * n) 255) same) in
      inv ∙ count_more t k some b (λ ten. other (here ∙ ten)) good

-- after sixteen the row ends

module _ (t : List ℕ) (k : ℕ) (last : k ≡ 16) (inv : Counting t k) where
  pub ends : end_at t 65 ≡ Ok 66 → Ok 16 ≡ counted (row_bytes t)
  unfolding more_bytes
  ends h =
      let full = subst (Counting t) last inv in
      sym (full ∙ ap (λ r. plus 16 (counted (and_then r λ _. Ok []))) h)

  pub runs_on : (e : Cause) → end_at t 65 ≡ Err e → Err e ≡ counted (row_bytes t)
  unfolding more_bytes
  runs_on e h =
      let full = subst (Counting t) last inv in
      sym (full ∙ ap (λ r. plus 16 (counted (and_then r λ _. Ok []))) h)
