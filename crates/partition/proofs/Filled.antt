-- An array that is made from a function of the index, by calls that leave the function as it was.
use Rattle.std.proofs.Common.{◌≡◌, ℕ, zero, suc, ◌+◌, ◌<◌, ◌≤◌, List, get_or, refl, ◌∙◌, subst, ⊎_elim, arith}
use Rattle.std.proofs.lemmas.Bool.{cases_lt}
use Rattle.std.specs.Array.{IsFromFnResult, IsFromFnResultFrom}
use Rattle.std.specs.Fn.{Called}
use denote.Param.Members.{Mut}

pub from_fn_at :
    {F : Type 0} {g : Mut F (ℕ × Unit {0}) ℕ} (h : ℕ → ℕ) (f : F) (ys : List ℕ) (n : ℕ) →
    ((i y : ℕ) (q : F) → i < n → Called g f (i, tt) y q → (q ≡ f) × (y ≡ h i)) →
    IsFromFnResult g f ys n →
    (j : ℕ) →
    j < n →
    get_or ys j 0 ≡ h j
from_fn_at {F} {g} h f ys n computes made j l = go n 0 f refl made.each (omega arith) (omega arith) (omega arith)
  where
    go : (k i : ℕ) (p : F) → p ≡ f → IsFromFnResultFrom g p ys i k → i + k ≤ n → i ≤ j → j < i + k → get_or ys j 0 ≡ h j
    go zero i p same c fits low high = absurd (omega arith)
    go (suc k) i p same c fits low high =
        let called = computes i c.1 c.0 (omega arith) (subst (λ (z : F). Called g z (i, tt) c.1 c.0) same c.3) in
        ⊎_elim
        (λ lt. go k (i + 1) c.0 called.0 c.4 (omega arith) (omega arith) (omega arith))
        (λ le.
        let at : i ≡ j = omega arith in
        subst (λ (z : ℕ). get_or ys z 0 ≡ h z) at (c.2.1 0 ∙ called.1))
        (cases_lt i j)
