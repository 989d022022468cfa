-- What has one proof at most: that two section graphs are equal, and that the laws hold of one. So both follow from what some calls led
-- to, whichever calls they were.
use Rattle.std.proofs.Common.{◌≡◌, ℕ, ◌<◌, ◌≤◌, ◌^◌, sym, ◌∙◌, ⊎_elim, arith}
use Rattle.std.proofs.Props.{props}
use Rattle.std.proofs.Math.Path.{to_path_p}
use Rattle.std.proofs.Math.Bridge.{le_prop}
use Rattle.std.proofs.Math.Nat.{ℕ_set}
use Rattle.std.proofs.Math.Pow.{pow-lt}
use Rattle.std.proofs.lemmas.Bool.{cases_lt}
use Rattle.model.specs.declared.Target.{Target}
use Rattle.model.specs.declared.Target.TheVariants.{Section, Outside}
use Rattle.model.specs.Graph.{Graph}
use Rattle.model.specs.Laws.{Alignment, Aimed, Valid}
use Rattle.runs.specs.State.{State}

pub State-set : IsSet State
State-set = hlevel props

exponents_same : (k l : ℕ) → 2 ^ k ≡ 2 ^ l → k ≡ l
exponents_same k l e =
    ⊎_elim
    (λ h. let f : 2 ^ k < 2 ^ l = pow-lt h in absurd (omega arith))
    (λ h.
    ⊎_elim
    (λ j. let f : 2 ^ l < 2 ^ k = pow-lt j in absurd (omega arith))
    (λ j. omega arith)
    (cases_lt l k))
    (cases_lt k l)

Alignment-prop : (a : ℕ) → IsProp (Alignment a)
Alignment-prop a x y =
    let k : x.0 ≡ y.0 = exponents_same x.0 y.0 (sym x.2 ∙ y.2) in
    λ i. (
      k i,
      to_path_p (λ j. k j ≤ 16) {a = x.1} {b = y.1} (le_prop _ _) i,
      to_path_p (λ j. a ≡ 2 ^ k j) {a = x.2} {b = y.2} (ℕ_set a (2 ^ y.0) _ _) i,
    )

Aimed-prop : {Aim : ℕ → Type 0} → ((t : ℕ) → IsProp (Aim t)) → (x : Target) → IsProp (Aimed Aim x)
Aimed-prop each (Section t) = each t
Aimed-prop each (Outside e) = le_prop

pub Valid-prop : (g : Graph) → IsProp (Valid g)
Valid-prop g = hlevel (props, Alignment-prop, Aimed-prop)
