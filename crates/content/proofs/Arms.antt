-- Relocations, told with their targets: they are the same but for the sections pointed at, and these are related one by one.
use Rattle.std.proofs.Common.{◌≡◌, ℕ, true, List, [], ◌∷◌, map, refl, ap, arith}
use Rattle.std.specs.List.{AllByRecursion}
use Rattle.std.proofs.lemmas.Bool.{eqb-true, eq-eqb, and_parts, and_from}
use Rattle.model.specs.declared.Target.{Target}
use Rattle.model.specs.declared.Target.TheVariants.{Section, Outside}
use Rattle.model.specs.declared.Relocation.{Relocation}
use Rattle.model.specs.Laws.{Aimed, LawfulRelocation}
use Rattle.unfolding.specs.Depth.{Arm, told_map, same_list}
use Rattle.unfolding.specs.Telling.{told_target, arm}
use Rattle.unfolding.proofs.Shapes.{ToldRel, ArmsRel}
use Rattle.content.specs.Core.{unnamed, bare}
use Rattle.content.specs.Aims.{class_in, same_aim_at, same_aim}

-- P holds of each section pointed at, and R relates two of them exactly when they are of one class
module _ (P : ℕ → Type 0) (cs : List ℕ) (R : ℕ → ℕ → Type 0) where
  told_join :
      ((a b : ℕ) → P a → P b → class_in cs a ≡ class_in cs b → R a b) →
      (x y : Target) →
      Aimed P x →
      Aimed P y →
      told_map unnamed (told_target x) ≡ told_map unnamed (told_target y) →
      same_aim_at cs x y ≡ true →
      ToldRel R (told_target x) (told_target y)
  told_join join (Section a) (Section b) p q e s = join a b p q (eqb-true (class_in cs a) (class_in cs b) s)
  told_join join (Section a) (Outside f) p q e s = let z : ◌≡◌ {A = ℕ} 0 1 = cc in absurd (omega arith)
  told_join join (Outside a) (Section f) p q e s = let z : ◌≡◌ {A = ℕ} 0 1 = cc in absurd (omega arith)
  told_join join (Outside a) (Outside f) p q e s = cc

  pub arms_join :
      ((a b : ℕ) → P a → P b → class_in cs a ≡ class_in cs b → R a b) →
      (n m : ℕ) (rs qs : List Relocation) →
      AllByRecursion (LawfulRelocation P n) rs →
      AllByRecursion (LawfulRelocation P m) qs →
      map bare rs ≡ map bare qs →
      same_list (same_aim cs) rs qs ≡ true →
      ArmsRel R (map arm rs) (map arm qs)
  arms_join join n m [] [] h k e s = tt
  arms_join join n m [] (q ∷ qs) h k e s = let z : ◌≡◌ {A = ℕ} 0 1 = cc in absurd (omega arith)
  arms_join join n m (r ∷ rs) [] h k e s = let z : ◌≡◌ {A = ℕ} 0 1 = cc in absurd (omega arith)
  arms_join join n m (r ∷ rs) (q ∷ qs) h k e s =
      let heads : bare r ≡ bare q = cc in
      let tails : map bare rs ≡ map bare qs = cc in
      let tests = and_parts (same_aim cs r q) (same_list (same_aim cs) rs qs) s in (
        ap (λ (a : Arm ℕ). a.link) heads,
        told_join join r.target q.target h.0.aimed k.0.aimed (ap (λ (a : Arm ℕ). a.target) heads) tests.0,
        arms_join join n m rs qs h.1 k.1 tails tests.1,
      )

  told_split :
      ((a b : ℕ) → P a → P b → R a b → class_in cs a ≡ class_in cs b) →
      (x y : Target) →
      Aimed P x →
      Aimed P y →
      ToldRel R (told_target x) (told_target y) →
      (told_map unnamed (told_target x) ≡ told_map unnamed (told_target y)) × (same_aim_at cs x y ≡ true)
  told_split split (Section a) (Section b) p q e = (refl, eq-eqb (class_in cs a) (class_in cs b) (split a b p q e))
  told_split split (Section a) (Outside f) p q e = absurd e
  told_split split (Outside a) (Section f) p q e = absurd e
  told_split split (Outside a) (Outside f) p q e = ((cc), refl)

  pub arms_split :
      ((a b : ℕ) → P a → P b → R a b → class_in cs a ≡ class_in cs b) →
      (n m : ℕ) (rs qs : List Relocation) →
      AllByRecursion (LawfulRelocation P n) rs →
      AllByRecursion (LawfulRelocation P m) qs →
      ArmsRel R (map arm rs) (map arm qs) →
      (map bare rs ≡ map bare qs) × (same_list (same_aim cs) rs qs ≡ true)
  arms_split split n m [] [] h k e = (refl, refl)
  arms_split split n m [] (q ∷ qs) h k e = absurd e
  arms_split split n m (r ∷ rs) [] h k e = absurd e
  arms_split split n m (r ∷ rs) (q ∷ qs) h k e =
      let here = told_split split r.target q.target h.0.aimed k.0.aimed e.1 in
      let rest = arms_split split n m rs qs h.1 k.1 e.2 in
      let links = e.0 in
      let targets = here.0 in
      let tails = rest.0 in (
        (λ i. record { link = links i; target = targets i } ∷ tails i),
        and_from (same_aim cs r q) (same_list (same_aim cs) rs qs) here.1 rest.1,
      )
