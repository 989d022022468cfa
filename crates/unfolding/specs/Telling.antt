-- What an unfolding tells of a section besides its relocations: any mark and any face with a test of equality.
use Rattle.std.specs.Prelude.{◌≡◌, ℕ, Bool, List, [], map, Some, None, Decides, Option}
use Rattle.std.specs.Option.{option_map}
use Rattle.model.specs.declared.Setting.{Setting}
use Rattle.model.specs.declared.Setting.TheVariants.{Foldable, Pinned}
use Rattle.model.specs.declared.Target.{Target}
use Rattle.model.specs.declared.Target.TheVariants.{Section, Outside}
use Rattle.model.specs.declared.Relocation.{Relocation}
use Rattle.model.specs.Graph.{Body, Graph, section_of}
use Rattle.unfolding.specs.Depth.{Told, outside, section, Arm, Shape, Look, unfolding_at, same_unfolding}

-- the mark goes by the section's number and its setting, the face by the section; an absent section has a mark and a face too
pub record Telling (M F : Type 0) : Type 0 where
  pub mark : ℕ → Option Setting → M
  pub face : Option Body → F
  pub same_mark : M → M → Bool
  pub same_face : F → F → Bool

-- a section as the model has it, and as unfoldings tell it

abbrev pub setting_in : Body → Setting
setting_in b = b.setting

abbrev pub setting_of : Graph → ℕ → Option Setting
setting_of g s = option_map setting_in (section_of g s)

abbrev pub told_target : Target → Told ℕ
told_target (Section t) = section t
told_target (Outside e) = outside e

abbrev pub arm : Relocation → Arm ℕ
arm r =
    record {
      link = record { offset = r.offset; kind = r.kind; displacement = r.displacement };
      target = told_target r.target;
    }

abbrev pub arms_in : Option Body → List (Arm ℕ)
arms_in None = []
arms_in (Some b) = map arm b.relocations

-- what is told of section s, from its number and what it is
abbrev pub seen : {M F : Type 0} → Telling M F → ℕ → Option Body → Shape M F ℕ
seen T s b = record { mark = T.mark s (option_map setting_in b); face = T.face b; arms = arms_in b }

abbrev pub look : {M F : Type 0} → Telling M F → Graph → Look M F
look T g s = seen T s (section_of g s)

-- section s of g and section t of h agree at depth k: their unfoldings are equal
abbrev pub AgreeBy : {M F : Type 0} → Telling M F → ℕ → Graph → ℕ → Graph → ℕ → Type 0
AgreeBy T k g s h t = unfolding_at (look T g) k s ≡ unfolding_at (look T h) k t

-- they agree at every depth
abbrev pub AlikeBy : {M F : Type 0} → Telling M F → Graph → ℕ → Graph → ℕ → Type 0
AlikeBy T g s h t = (k : ℕ) → AgreeBy T k g s h t

-- agreement at a depth as a test
abbrev pub agrees_by : {M F : Type 0} → Telling M F → ℕ → Graph → ℕ → Graph → ℕ → Bool
agrees_by T k g s h t =
    same_unfolding T.same_mark T.same_face k (unfolding_at (look T g) k s) (unfolding_at (look T h) k t)

-- a section with other relocations
abbrev pub with_relocations : Body → List Relocation → Body
with_relocations b rs = record b { relocations = rs }

-- what two sections with equal marks have in common: both are absent, both are foldable, or they are one pinned section
abbrev pub Marked : ℕ → Option Setting → ℕ → Option Setting → Type 0
Marked s None t None = Unit {0}
Marked s None t (Some b) = ⊥
Marked s (Some a) t None = ⊥
Marked s (Some Foldable) t (Some Foldable) = Unit {0}
Marked s (Some Foldable) t (Some Pinned) = ⊥
Marked s (Some Pinned) t (Some Foldable) = ⊥
Marked s (Some Pinned) t (Some Pinned) = s ≡ t

-- all that the theory asks: the tests decide equality, equal marks mean what they should, and a face tells no relocation
pub record Lawful {M F : Type 0} (T : Telling M F) : Type 0 where
  pub marks : (x y : M) → Decides (T.same_mark x y) (x ≡ y)
  pub faces : (x y : F) → Decides (T.same_face x y) (x ≡ y)
  pub meaning : (s t : ℕ) (a b : Option Setting) → T.mark s a ≡ T.mark t b → Marked s a t b
  pub bare : (b : Body) (rs : List Relocation) → T.face (Some (with_relocations b rs)) ≡ T.face (Some b)
