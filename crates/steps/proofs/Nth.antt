-- Elements of a list by their places.
use Rattle.std.proofs.Common.{◌≡◌, ℕ, zero, suc, List, [], ◌∷◌, map, length, Some, refl, subst, arith}
use Rattle.std.specs.List.{slice_get, AllByRecursion}
use Rattle.std.proofs.lemmas.Option.{slice_get-map}

pub nth_map_some : {X Y : Type 0} (f : X → Y) (xs : List X) (i : ℕ) (x : X) → slice_get xs i ≡ Some x → slice_get (map f xs) i ≡ Some (f x)
nth_map_some f xs i x e = rw (slice_get-map f xs i, e)

-- what holds of all holds at each place
pub all_at : {X : Type 0} (P : X → Type 0) (xs : List X) (i : ℕ) (x : X) → AllByRecursion P xs → slice_get xs i ≡ Some x → P x
all_at P [] i x h e = let z : ◌≡◌ {A = ℕ} 0 1 = cc in absurd (omega arith)
all_at P (y ∷ xs) zero x h e = subst P (out e) h.0
  where
    out : Some y ≡ Some x → y ≡ x
    out e = cc
all_at P (y ∷ xs) (suc i) x h e = all_at P xs i x h.1 e

-- what holds at each place holds of all
pub all_from : {X : Type 0} (P : X → Type 0) (xs : List X) → ((i : ℕ) (x : X) → slice_get xs i ≡ Some x → P x) → AllByRecursion P xs
all_from P [] h = tt
all_from P (x ∷ xs) h = (h zero x refl, all_from P xs (λ i. h (suc i)))

-- a list as long has an element at the same place
pub nth_there :
    {X Y : Type 0} (xs : List X) (ys : List Y) (i : ℕ) (x : X) → length xs ≡ length ys → slice_get xs i ≡ Some x → (y : Y) × (slice_get ys i ≡ Some y)
nth_there [] ys i x l e = let z : ◌≡◌ {A = ℕ} 0 1 = cc in absurd (omega arith)
nth_there (a ∷ xs) [] i x l e = absurd (omega arith)
nth_there (a ∷ xs) (b ∷ ys) zero x l e = (b, refl)
nth_there (a ∷ xs) (b ∷ ys) (suc i) x l e = nth_there xs ys i x (omega arith) e
