-- The steps that read a column.
use Rattle.std.proofs.Common.{◌≡◌, ℕ, ◌+◌, ◌*◌, ◌^◌, ◌<◌, ◌≤◌, Bool, true, false, cond, not, eqb, ltb, List, [], ◌∷◌, length, drop, Some, None, unwrap_or, sym, refl, ap, ◌∙◌, pow-suc, add-one, one-add, arith}
use native.Mathlib.Nat.{pow-le-pow_right}
use Rattle.std.specs.List.{position, position_or_len}
use Rattle.std.proofs.lemmas.List.Sums.{prefix_len-le-length}
use Rattle.std.proofs.lemmas.Bool.{ltb-false}
use Rattle.column.specs.Columns.{number, read_column}

-- where the blanks end the number begins

abbrev other : ℕ → Bool
other b = not (eqb b 32)

other_passed : (xs : List ℕ) → read_column xs ≡ number (drop (position_or_len other xs) xs)
unfolding read_column
other_passed [] = refl
other_passed (x ∷ xs) = go (eqb x 32) (position_or_len other xs) (other_passed xs)
  where
    go : (b : Bool) (n : ℕ)
        → read_column xs ≡ number (drop n xs)
        → cond b (read_column xs) (number (x ∷ xs)) ≡ number (drop (cond (not (not b)) (1 + n) 0) (x ∷ xs))
    go true n h = rw (one-add n) h
    go false n h = refl

found : (b : Bool) (k n : ℕ) → ltb k n ≡ b → k ≤ n → unwrap_or (cond b (Some k) None) n ≡ k
found true k n e h = refl
found false k n e h = omega (arith, ltb-false k n e)

pub blanks_passed : (xs : List ℕ) → read_column xs ≡ number (drop (unwrap_or (position other xs) (length xs)) xs)
blanks_passed xs =
    let k : ℕ = position_or_len other xs in
    other_passed xs
    ∙ ap (λ i. number (drop i xs))
    (sym (found (ltb k (length xs)) k (length xs) refl (prefix_len-le-length (λ x. not (other x)) xs)))

-- a number of i digits, and one digit more
pub digit_more : (s i d : ℕ) → s < 10 ^ i → d ≤ 9 → s * 10 + d < 10 ^ (i + 1)
digit_more s i d h k = rw add-one (omega (arith, pow-suc 10 i))

pub powers : (i k : ℕ) → i ≤ k → 10 ^ i ≤ 10 ^ k
powers i k h = pow-le-pow_right (omega arith) h
