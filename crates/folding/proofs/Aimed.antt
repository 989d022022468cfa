-- Relocations with their targets put elsewhere.
use Rattle.std.proofs.Common.{◌≡◌, ℕ, zero, suc, ◌^◌, ◌<◌, List, [], ◌∷◌, map, length, get_or, ℤ, ◌≤ℤ◌, Some, None, Option, sym, refl, ap, subst}
use Rattle.std.specs.Option.{option_map}
use Rattle.std.specs.List.{slice_get}
use Rattle.std.proofs.lemmas.List.{length-map}
use Rattle.std.proofs.lemmas.List.Folds.{map_fixed}
use Rattle.std.proofs.ByRecursion.{All-map, All-weaker}
use Rattle.model.specs.declared.Target.{Target}
use Rattle.model.specs.declared.Target.TheVariants.{Section, Outside}
use Rattle.model.specs.declared.Relocation.{Relocation}
use Rattle.model.specs.Graph.{Body}
use Rattle.model.specs.Laws.{Aimed, highest, LawfulRelocation, LawfulBody}
use Rattle.unfolding.specs.Depth.{told_map, arm_map, shape_map}
use Rattle.unfolding.specs.Telling.{Telling, Lawful, told_target, arm, seen, with_relocations}
use Rattle.unfolding.specs.Groups.{aimed_at, aimed, moved}

-- what unfoldings tell of a section whose relocations were moved

moved_told : (f : ℕ → ℕ) (t : Target) → told_target (moved f t) ≡ told_map f (told_target t)
moved_told f (Section t) = refl
moved_told f (Outside e) = refl

moved_arms : (f : ℕ → ℕ) (rs : List Relocation) → map arm (map (aimed_at (moved f)) rs) ≡ map (arm_map f) (map arm rs)
moved_arms f [] = refl
moved_arms f (r ∷ rs) =
    let here = moved_told f r.target in
    let rest = moved_arms f rs in
    λ i. record { link = (arm r).link; target = here i } ∷ rest i

pub moved_seen :
    {M F : Type 0} (T : Telling M F) (L : Lawful T) (f : ℕ → ℕ) (s : ℕ) (b : Option Body) →
    seen T s (option_map (aimed (moved f)) b) ≡ shape_map f (seen T s b)
moved_seen T L f s None = refl
moved_seen T L f s (Some b) =
    let face = L.bare b (map (aimed_at (moved f)) b.relocations) in
    let arms = moved_arms f b.relocations in
    λ i. record { mark = T.mark s (Some b.setting); face = face i; arms = arms i }

-- a function that moves no section moves no relocation

moved_same : (f : ℕ → ℕ) → ((t : ℕ) → f t ≡ t) → (t : Target) → moved f t ≡ t
moved_same f same (Section t) = ap {B = Target} Section (same t)
moved_same f same (Outside e) = refl

pub relocations_same : (f : Target → Target) → ((t : Target) → f t ≡ t) → (rs : List Relocation) → map (aimed_at f) rs ≡ rs
relocations_same f same rs =
    map_fixed (aimed_at f) rs (λ j r _. ap (λ (t : Target). record (get_or rs j r) { target = t }) (same (get_or rs j r).target))

pub aimed_same : (f : ℕ → ℕ) → ((t : ℕ) → f t ≡ t) → (b : Option Body) → option_map (aimed (moved f)) b ≡ b
aimed_same f same None = refl
aimed_same f same (Some b) =
    ap (λ (rs : List Relocation). Some (with_relocations b rs)) (relocations_same (moved f) (moved_same f same) b.relocations)

-- relocations put elsewhere by two functions that agree where it matters
pub relocations_agree :
    (f h : Target → Target) (rs : List Relocation) →
    ((j : ℕ) (r : Relocation) → slice_get rs j ≡ Some r → f r.target ≡ h r.target) →
    map (aimed_at f) rs ≡ map (aimed_at h) rs
relocations_agree f h [] same = refl
relocations_agree f h (r ∷ rs) same =
    let here = same zero r refl in
    let rest = relocations_agree f h rs (λ j. same (suc j)) in
    λ i. record r { target = here i } ∷ rest i

-- the laws of a section, where the new targets are lawful and bear the old displacements
pub lawful_aimed :
    (A B : ℕ → Type 0) (f : Target → Target) →
    ((t : Target) → Aimed A t → Aimed B (f t)) →
    ((t : Target) (z : ℤ) → z ≤ℤ highest t → z ≤ℤ highest (f t)) →
    (b : Body) →
    LawfulBody A b →
    LawfulBody B (aimed f b)
lawful_aimed A B f aims bears b l =
    record {
      flags = l.flags;
      alignment = l.alignment;
      size = l.size;
      bytes = l.bytes;
      few = subst (λ (x : ℕ). x < 2 ^ 16) (sym (length-map b.relocations (aimed_at f))) l.few;
      relocations =
          All-map
          (LawfulRelocation B (length b.bytes))
          (aimed_at f)
          b.relocations
          (All-weaker
          (LawfulRelocation A (length b.bytes))
          (λ r. LawfulRelocation B (length b.bytes) (aimed_at f r))
          (λ r h.
          record {
            offset = h.offset;
            kind = h.kind;
            aimed = aims r.target h.aimed;
            low = h.low;
            high = bears r.target r.displacement h.high;
          })
          b.relocations
          l.relocations);
    }
