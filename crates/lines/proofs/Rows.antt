-- A text is its rows, one after another, and a row has byte 10 at its end alone.
use Rattle.std.proofs.Common.{◌≡◌, ℕ, ◌<◌, Bool, true, false, cond, eqb, List, [], ◌∷◌, ◌++◌, refl, ap, ◌∙◌, arith}
use Rattle.std.specs.List.{AllByRecursion, concat}
use Rattle.std.proofs.lemmas.Bool.{ne_eqb, eqb-false, cond-false}
use Rattle.lines.specs.Lines.{lines, grown}

whole_grown : (b : ℕ) (ls : List (List ℕ)) → concat (grown b ls) ≡ b ∷ concat ls
whole_grown b [] = refl
whole_grown b (l ∷ ls) = refl

pub whole_lines : (t : List ℕ) → concat (lines t) ≡ t
whole_lines [] = refl
whole_lines (b ∷ t) = go (eqb b 10) (whole_lines t)
  where
    go : (c : Bool) → concat (lines t) ≡ t → concat (cond c ((b ∷ []) ∷ lines t) (grown b (lines t))) ≡ b ∷ t
    go true e = ap (λ (xs : List ℕ). b ∷ xs) e
    go false e = whole_grown b (lines t) ∙ ap (λ (xs : List ℕ). b ∷ xs) e

-- a row's text: no byte 10 but the last
pub lines_row : (m t : List ℕ) → AllByRecursion (λ b. 10 < b) m → lines ((m ++ 10 ∷ []) ++ t) ≡ (m ++ 10 ∷ []) ∷ lines t
lines_row [] t h = refl
lines_row (b ∷ m) t h =
    let apart : b ≡ 10 → ⊥ = λ (e : b ≡ 10). omega (arith, h.0) in
    cond-false (eqb b 10) _ _ (ne_eqb b 10 apart) ∙ ap (grown b) (lines_row m t h.1)

-- some bytes of which only the last may be 10
abbrev pub OneRow : List ℕ → Type 0
OneRow [] = ⊥
OneRow (b ∷ []) = Unit {0}
OneRow (b ∷ (c ∷ l)) = (b ≡ 10 → ⊥) × OneRow (c ∷ l)

one_grown : (b : ℕ) (ls : List (List ℕ)) → (b ≡ 10 → ⊥) → AllByRecursion OneRow ls → AllByRecursion OneRow (grown b ls)
one_grown b [] n h = (tt, tt)
one_grown b ([] ∷ ls) n h = absurd h.0
one_grown b ((c ∷ l) ∷ ls) n h = ((n, h.0), h.1)

pub one_lines : (t : List ℕ) → AllByRecursion OneRow (lines t)
one_lines [] = tt
one_lines (b ∷ t) = go (eqb b 10) refl (one_lines t)
  where
    go : (c : Bool) → eqb b 10 ≡ c → AllByRecursion OneRow (lines t) → AllByRecursion OneRow (cond c ((b ∷ []) ∷ lines t) (grown b (lines t)))
    go true e h = (tt, h)
    go false e h = one_grown b (lines t) (eqb-false b 10 e) h

-- nothing comes after byte 10 in a row
pub one_row_ends : (m r : List ℕ) → OneRow ((m ++ 10 ∷ []) ++ r) → r ≡ []
one_row_ends [] [] h = refl
one_row_ends [] (b ∷ r) h = absurd (h.0 refl)
one_row_ends (b ∷ []) r h = one_row_ends [] r h.1
one_row_ends (b ∷ (c ∷ m)) r h = one_row_ends (c ∷ m) r h.1

-- a text that is not empty has a first row
pub first_row : (t : List ℕ) → 0 < lib.ListN.length t → (l : List ℕ) × (ls : List (List ℕ)) × (lines t ≡ l ∷ ls)
first_row [] h = absurd (omega arith)
first_row (b ∷ t) h = go (eqb b 10) (lines t)
  where
    go : (c : Bool) (rest : List (List ℕ)) → (l : List ℕ) × (ls : List (List ℕ)) × (cond c ((b ∷ []) ∷ rest) (grown b rest) ≡ l ∷ ls)
    go true rest = (b ∷ [], rest, refl)
    go false [] = (b ∷ [], [], refl)
    go false (l ∷ ls) = (b ∷ l, ls, refl)
