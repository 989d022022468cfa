-- Sections that are alike have alike targets, relocation by relocation.
use Rattle.std.proofs.Common.{◌≡◌, ℕ, zero, suc, List, [], ◌∷◌, map, Some, None, Option, refl, subst, arith}
use Rattle.std.specs.List.{slice_get}
use Rattle.model.specs.declared.Target.{Target}
use Rattle.model.specs.declared.Target.TheVariants.{Section, Outside}
use Rattle.model.specs.declared.Relocation.{Relocation}
use Rattle.model.specs.Graph.{Body, Graph, section_of, told_relocation, relocation_of}
use Rattle.unfolding.specs.Depth.{section, unfolding_at}
use Rattle.unfolding.specs.Telling.{Telling, told_target, arm, arms_in, look, AgreeBy, AlikeBy}
use Rattle.unfolding.proofs.Shapes.{ToldRel, ArmsRel, shape_to}

-- relocations related one by one, at a place

module _ (R : ℕ → ℕ → Type 0) where
  list_there :
      (xs ys : List Relocation) (j : ℕ) (r : Relocation) →
      ArmsRel R (map arm xs) (map arm ys) →
      slice_get xs j ≡ Some r →
      (q : Relocation) × (slice_get ys j ≡ Some q)
  list_there [] ys j r a e = let z : ◌≡◌ {A = ℕ} 0 1 = cc in absurd (omega arith)
  list_there (x ∷ xs) [] j r a e = absurd a
  list_there (x ∷ xs) (y ∷ ys) zero r a e = (y, refl)
  list_there (x ∷ xs) (y ∷ ys) (suc j) r a e = list_there xs ys j r a.2 e

  list_related :
      (xs ys : List Relocation) (j : ℕ) (r q : Relocation) →
      ArmsRel R (map arm xs) (map arm ys) →
      slice_get xs j ≡ Some r →
      slice_get ys j ≡ Some q →
      ToldRel R (told_target r.target) (told_target q.target)
  list_related [] ys j r q a e f = let z : ◌≡◌ {A = ℕ} 0 1 = cc in absurd (omega arith)
  list_related (x ∷ xs) [] j r q a e f = absurd a
  list_related (x ∷ xs) (y ∷ ys) zero r q a e f =
      let there : x ≡ r = cc in
      let here : y ≡ q = cc in
      subst
      (λ (w : Relocation). ToldRel R (told_target w.target) (told_target q.target))
      there
      (subst (λ (w : Relocation). ToldRel R (told_target x.target) (told_target w.target)) here a.1)
  list_related (x ∷ xs) (y ∷ ys) (suc j) r q a e f = list_related xs ys j r q a.2 e f

  arms_there :
      (a b : Option Body) (j : ℕ) (r : Relocation) →
      ArmsRel R (arms_in a) (arms_in b) →
      told_relocation a j ≡ Some r →
      (q : Relocation) × (told_relocation b j ≡ Some q)
  arms_there None b j r h e = let z : ◌≡◌ {A = ℕ} 0 1 = cc in absurd (omega arith)
  arms_there (Some a) None j r h e = list_there a.relocations [] j r h e
  arms_there (Some a) (Some b) j r h e = list_there a.relocations b.relocations j r h e

  arms_related :
      (a b : Option Body) (j : ℕ) (r q : Relocation) →
      ArmsRel R (arms_in a) (arms_in b) →
      told_relocation a j ≡ Some r →
      told_relocation b j ≡ Some q →
      ToldRel R (told_target r.target) (told_target q.target)
  arms_related None b j r q h e f = let z : ◌≡◌ {A = ℕ} 0 1 = cc in absurd (omega arith)
  arms_related (Some a) None j r q h e f = let z : ◌≡◌ {A = ℕ} 0 1 = cc in absurd (omega arith)
  arms_related (Some a) (Some b) j r q h e f = list_related a.relocations b.relocations j r q h e f

-- the relocation at the same place, and the section that it points at
pub record Followed {M F : Type 0} (T : Telling M F) (g : Graph) (t : ℕ) (h : Graph) (s : ℕ) (j : ℕ) : Type 0 where
  pub relocation : Relocation
  pub place : relocation_of h s j ≡ Some relocation
  pub number : ℕ
  pub target : relocation.target ≡ Section number
  pub alike : AlikeBy T g t h number

pub follow :
    {M F : Type 0} (T : Telling M F) (g : Graph) (s : ℕ) (h : Graph) (s' : ℕ) →
    AlikeBy T g s h s' →
    (j : ℕ) (r : Relocation) (t : ℕ) →
    relocation_of g s j ≡ Some r →
    r.target ≡ Section t →
    Followed T g t h s' j
follow {M} {F} T g s h s' alike j r t e f = go (arms_there (R 0) (section_of g s) (section_of h s') j r (arms 0) e)
  where
    R : ℕ → ℕ → ℕ → Type 0
    R k a b = AgreeBy T k g a h b

    arms : (k : ℕ) → ArmsRel (R k) (arms_in (section_of g s)) (arms_in (section_of h s'))
    arms k = (shape_to (unfolding_at (look T g) k) (unfolding_at (look T h) k) (look T g s) (look T h s') (alike (suc k))).arms

    go : (q : Relocation) × (relocation_of h s' j ≡ Some q) → Followed T g t h s' j
    go q = at q.0.target refl
      where
        related : (k : ℕ) → ToldRel (R k) (section t) (told_target q.0.target)
        related k =
            subst
            (λ (w : Target). ToldRel (R k) (told_target w) (told_target q.0.target))
            f
            (arms_related (R k) (section_of g s) (section_of h s') j r q.0 (arms k) e q.1)

        at : (w : Target) → q.0.target ≡ w → Followed T g t h s' j
        at (Section u) same =
            record {
              relocation = q.0;
              place = q.1;
              number = u;
              target = same;
              alike = λ k. subst (λ (w : Target). ToldRel (R k) (section t) (told_target w)) same (related k);
            }
        at (Outside x) same = absurd (subst (λ (w : Target). ToldRel (R 0) (section t) (told_target w)) same (related 0))
