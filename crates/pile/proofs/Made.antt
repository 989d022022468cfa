-- What `array::from_fn` makes by a closure that stays as it is.
use Rattle.std.proofs.Common.{◌≡◌, ℕ, zero, suc, ◌+◌, ◌<◌, ◌≤◌, List, get_or, subst, ◌∙◌, ⊎_elim, arith}
use Rattle.std.proofs.lemmas.Bool.{cases_lt}
use Rattle.std.specs.Fn.{Mut, Called}
use Rattle.std.specs.Array.{IsFromFnResultFrom, IsFromFnResult}

module _ {F B : Type 0} (g : Mut F (ℕ × Unit {0}) B) (h : ℕ → B) (f : F) (ys : List B) (all : ℕ)
    (gives : (i : ℕ) (y : B) (q : F) → i < all → Called g f (i, tt) y q → (q ≡ f) × (y ≡ h i)) where
  made_from : (n i : ℕ) → i + n ≡ all → IsFromFnResultFrom g f ys i n → (k : ℕ) (d : B) → i ≤ k → k < all → get_or ys k d ≡ h k
  made_from zero i e m k d low lt = absurd (omega arith)
  made_from (suc n) i e m k d low lt =
      let one = gives i m.1 m.0 (omega arith) m.3 in
      ⊎_elim
      (λ l. made_from n (i + 1) (omega arith) (subst (λ (q : F). IsFromFnResultFrom g q ys (i + 1) n) one.0 m.4) k d (omega arith) lt)
      (λ l.
      let same : i ≡ k = omega arith in
      subst (λ (j : ℕ). get_or ys j d ≡ h j) same (m.2.1 d ∙ one.1))
      (cases_lt i k)

  pub made_at : (d : B) → IsFromFnResult g f ys all → (k : ℕ) → k < all → get_or ys k d ≡ h k
  made_at d m k lt = made_from all 0 (omega arith) m.each k d (omega arith) lt
