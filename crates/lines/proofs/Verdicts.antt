-- What the verdict on a text says of other texts, for any reader of rows.
use Rattle.std.proofs.Common.{◌≡◌, ℕ, zero, suc, ◌+◌, ◌≤◌, Bool, true, false, cond, List, [], ◌∷◌, length, take, Some, None, Option, sym, refl, ap, ◌∙◌, subst, add-zero, arith}
use Rattle.std.specs.Option.{option_map}
use Rattle.std.proofs.lemmas.List.{length-append}
use Rattle.lines.specs.Lines.{verdict, after, later, row_start, place_from, placed_after}
use Rattle.std.specs.List.{concat}

module _ {S : Type 0} (step : S → List ℕ → Option S) (final : S → Bool) where
  -- rows that agree with accepted ones at the front are not refused there
  pub not_before : (k : ℕ) (ls us : List (List ℕ)) (q : S) (j : ℕ) → take k ls ≡ take k us → verdict step final us q ≡ None → verdict step final ls q ≡ Some j → k ≤ j
  not_before zero ls us q j e a r = omega arith
  not_before (suc k) [] [] q j e a r = cc
  not_before (suc k) [] (u ∷ us) q j e a r = cc
  not_before (suc k) (l ∷ ls) [] q j e a r = cc
  not_before (suc k) (l ∷ ls) (u ∷ us) q j e a r =
      let same : l ≡ u = cc in
      go (step q l) j r (subst (λ (x : List ℕ). after (verdict step final us) (step q x) ≡ None) (sym same) a)
      (λ p i h m. not_before k ls us p i (let f : take k ls ≡ take k us = cc in f) h m)
    where
      go : (o : Option S) (i : ℕ) → after (verdict step final ls) o ≡ Some i → after (verdict step final us) o ≡ None
          → ((p : S) (m : ℕ) → verdict step final us p ≡ None → verdict step final ls p ≡ Some m → k ≤ m) → suc k ≤ i
      go None i h n deeper = cc
      go (Some p) i h n deeper = behind (verdict step final ls p) (verdict step final us p) refl refl h n
        where
          behind : (v w : Option ℕ) → verdict step final ls p ≡ v → verdict step final us p ≡ w → later v ≡ Some i → later w ≡ None → suc k ≤ i
          behind None w e f x y = cc
          behind (Some m) (Some n') e f x y = cc
          behind (Some m) None e f x y = let at : suc m ≡ i = cc in omega (arith, deeper p m f e)

  -- the place of the row that the verdict names, from the rows' own lengths
  pub place_is : (at : ℕ) (ls : List (List ℕ)) (q : S) → place_from step final at ls q ≡ option_map (λ k. at + row_start ls k) (verdict step final ls q)
  place_is at [] q = go (final q)
    where
      go : (b : Bool) → cond b None (Some at) ≡ option_map (λ k. at + row_start [] k) (cond b None (Some 0))
      go true = refl
      go false = ap (λ (n : ℕ). Some n) (sym (add-zero at))
  place_is at (l ∷ ls) q = go (step q l) (λ p. place_is (at + length l) ls p)
    where
      go : (o : Option S) → ((p : S) → place_from step final (at + length l) ls p ≡ option_map (λ k. (at + length l) + row_start ls k) (verdict step final ls p))
          → placed_after at (place_from step final (at + length l) ls) o ≡ option_map (λ k. at + row_start (l ∷ ls) k) (after (verdict step final ls) o)
      go None deeper = ap (λ (n : ℕ). Some n) (sym (add-zero at))
      go (Some p) deeper = deeper p ∙ behind (verdict step final ls p)
        where
          behind : (v : Option ℕ) → option_map (λ k. (at + length l) + row_start ls k) v ≡ option_map (λ k. at + row_start (l ∷ ls) k) (later v)
          behind None = refl
          behind (Some k) = ap (λ (n : ℕ). Some n) (omega (arith, length-append l (concat (take k ls))))
