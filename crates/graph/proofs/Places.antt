-- A list from a place on, by what stands at the place.
use Rattle.std.proofs.Common.{◌≡◌, ℕ, zero, suc, ◌+◌, ◌<◌, ◌≤◌, List, [], ◌∷◌, length, drop, Some, None, refl, add-one, arith}
use Rattle.std.specs.List.{slice_get}

drop_at : {X : Type 0} (xs : List X) (i : ℕ) (x : X) → slice_get xs i ≡ Some x → drop i xs ≡ x ∷ drop (suc i) xs
drop_at [] i x e = let z : ◌≡◌ {A = ℕ} 0 1 = cc in absurd (omega arith)
drop_at (y ∷ xs) zero x e = out e
  where
    out : Some y ≡ Some x → y ∷ xs ≡ x ∷ xs
    out e = cc
drop_at (y ∷ xs) (suc i) x e = drop_at xs i x e

pub drop_nth : {X : Type 0} (xs : List X) (i : ℕ) (x : X) → slice_get xs i ≡ Some x → drop i xs ≡ x ∷ drop (i + 1) xs
drop_nth xs i x e = rw (add-one i) (drop_at xs i x e)

-- nothing stands past the end
pub nth_none : {X : Type 0} (xs : List X) (i : ℕ) → slice_get xs i ≡ None → length xs ≤ i
nth_none [] i e = omega arith
nth_none (y ∷ xs) zero e = let z : ◌≡◌ {A = ℕ} 0 1 = cc in absurd (omega arith)
nth_none (y ∷ xs) (suc i) e = let h = nth_none xs i e in omega arith

-- lists with the same at each place are equal
pub same_from_places : {X : Type 0} (xs ys : List X) → length xs ≡ length ys → ((i : ℕ) → i < length xs → slice_get xs i ≡ slice_get ys i) → xs ≡ ys
same_from_places [] [] l h = refl
same_from_places [] (y ∷ ys) l h = absurd (omega arith)
same_from_places (x ∷ xs) [] l h = absurd (omega arith)
same_from_places (x ∷ xs) (y ∷ ys) l h =
    let heads : Some x ≡ Some y = h zero (omega arith) in
    let tails : xs ≡ ys = same_from_places xs ys (omega arith) (λ i m. h (suc i) (omega arith)) in
    cc
