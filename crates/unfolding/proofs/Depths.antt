-- Agreement from depth to depth, of any two ways to look at sections.
use Rattle.std.proofs.Common.{◌≡◌, ℕ, zero, suc, ◌≤◌, ap, subst, ⊎_elim, arith}
use Rattle.std.proofs.lemmas.Bool.{cases_lt}
use Rattle.unfolding.specs.Depth.{Shape, Look, unfolding_at}
use Rattle.unfolding.proofs.Shapes.{shape_to, shape_from, shape_weaker}

-- agreement at k + 1 gives agreement at k
pub narrows :
    {M F : Type 0} (l m : Look M F) (k s t : ℕ) →
    unfolding_at l (suc k) s ≡ unfolding_at m (suc k) t →
    unfolding_at l k s ≡ unfolding_at m k t
narrows {M} {F} l m zero s t e = ap (λ (z : Shape M F M). z.mark) e
narrows {M} {F} l m (suc k) s t e =
    shape_from
    (unfolding_at l k)
    (unfolding_at m k)
    (l s)
    (m t)
    (shape_weaker
    (λ a b. unfolding_at l (suc k) a ≡ unfolding_at m (suc k) b)
    (λ a b. unfolding_at l k a ≡ unfolding_at m k b)
    (λ a b. narrows l m k a b)
    (l s)
    (m t)
    (shape_to (unfolding_at l (suc k)) (unfolding_at m (suc k)) (l s) (m t) e))

pub narrows_to :
    {M F : Type 0} (l m : Look M F) (j k s t : ℕ) → j ≤ k → unfolding_at l k s ≡ unfolding_at m k t → unfolding_at l j s ≡ unfolding_at m j t
narrows_to l m j zero s t h e =
    let at : zero ≡ j = omega arith in
    subst (λ (x : ℕ). unfolding_at l x s ≡ unfolding_at m x t) at e
narrows_to l m j (suc k) s t h e =
    ⊎_elim
    (λ lt. narrows_to l m j k s t (omega arith) (narrows l m k s t e))
    (λ le.
    let at : suc k ≡ j = omega arith in
    subst (λ (x : ℕ). unfolding_at l x s ≡ unfolding_at m x t) at e)
    (cases_lt j (suc k))

module _ {M F : Type 0} (l : Look M F) where
  -- what agrees at depth k agrees at depth k + 1
  abbrev pub Steady : ℕ → Type 0
  Steady k = (s t : ℕ) → unfolding_at l k s ≡ unfolding_at l k t → unfolding_at l (suc k) s ≡ unfolding_at l (suc k) t

  -- then it agrees at depth k + 2
  pub steady_next : (k : ℕ) → Steady k → Steady (suc k)
  steady_next k h s t e =
      shape_from
      (unfolding_at l (suc k))
      (unfolding_at l (suc k))
      (l s)
      (l t)
      (shape_weaker
      (λ a b. unfolding_at l k a ≡ unfolding_at l k b)
      (λ a b. unfolding_at l (suc k) a ≡ unfolding_at l (suc k) b)
      h
      (l s)
      (l t)
      (shape_to (unfolding_at l k) (unfolding_at l k) (l s) (l t) e))

  pub steady_later : (k m : ℕ) → k ≤ m → Steady k → Steady m
  steady_later k zero h c =
      let at : k ≡ zero = omega arith in
      subst Steady at c
  steady_later k (suc m) h c =
      ⊎_elim
      (λ lt. steady_next m (steady_later k m (omega arith) c))
      (λ le.
      let at : k ≡ suc m = omega arith in
      subst Steady at c)
      (cases_lt k (suc m))

  -- and at every depth
  pub steady_alike :
      (k : ℕ) → Steady k → (s t : ℕ) → unfolding_at l k s ≡ unfolding_at l k t → (m : ℕ) → unfolding_at l m s ≡ unfolding_at l m t
  steady_alike k h s t e zero = narrows_to l l zero k s t (omega arith) e
  steady_alike k h s t e (suc m) =
      ⊎_elim
      (λ lt. narrows_to l l (suc m) k s t (omega arith) e)
      (λ le. steady_later k m (omega arith) h s t (steady_alike k h s t e m))
      (cases_lt m k)
