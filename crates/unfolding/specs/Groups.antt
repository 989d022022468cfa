-- The groups of alike sections, rounds, and the folded graph.
use Rattle.std.specs.Prelude.{◌≡◌, ℕ, suc, Bool, true, false, cond, not, ◌&&◌, ◌||◌, List, map, is_some, Some, None, Option, ◌==◌}
use Rattle.std.specs.Option.{option_map}
use Rattle.model.specs.declared.Setting.{Setting}
use Rattle.model.specs.declared.Setting.TheVariants.{Foldable, Pinned}
use Rattle.model.specs.declared.Target.{Target}
use Rattle.model.specs.declared.Target.TheVariants.{Section, Outside}
use Rattle.model.specs.declared.Relocation.{Relocation}
use Rattle.model.specs.Graph.{Body, Graph, Present, section_of, count_of}
use Rattle.steps.specs.Below.{all_below, count_below, least_below, table}
use Rattle.unfolding.specs.Telling.{Telling, AgreeBy, AlikeBy, agrees_by, setting_of, with_relocations}

abbrev pub may_fold : Option Setting → Bool
may_fold None = false
may_fold (Some Foldable) = true
may_fold (Some Pinned) = false

-- section s is present and foldable
abbrev pub foldable : Graph → ℕ → Bool
foldable g s = may_fold (setting_of g s)

abbrev pub FoldAble : Graph → ℕ → Type 0
FoldAble g s = foldable g s ≡ true

-- section s is present, as a test
abbrev pub present : Graph → ℕ → Bool
present g s = is_some (section_of g s)

-- how many sections are present
abbrev pub present_count : Graph → ℕ
present_count g = count_below (present g) (count_of g)

-- depths k and k + 1 divide the present foldable sections into the same groups
pub record StableBy {M F : Type 0} (T : Telling M F) (g : Graph) (k : ℕ) : Type 0 where
  pub finer : (s t : ℕ) → FoldAble g s → FoldAble g t → AgreeBy T k g s g t → AgreeBy T (suc k) g s g t
  pub coarser : (s t : ℕ) → FoldAble g s → FoldAble g t → AgreeBy T (suc k) g s g t → AgreeBy T k g s g t

abbrev pub same_test : Bool → Bool → Bool
same_test true b = b
same_test false b = not b

-- the same as a test
abbrev pub stable_pair : {M F : Type 0} → Telling M F → Graph → ℕ → ℕ → ℕ → Bool
stable_pair T g k s t =
    not (foldable g s && foldable g t) || same_test (agrees_by T k g s g t) (agrees_by T (suc k) g s g t)

abbrev pub stable_by : {M F : Type 0} → Telling M F → Graph → ℕ → Bool
stable_by T g k = all_below (λ s. all_below (stable_pair T g k s) (count_of g)) (count_of g)

-- the least such depth; `GroupsSettle` says that there is one not above the count of sections
unfoldable pub rounds_by : {M F : Type 0} → Telling M F → Graph → ℕ
rounds_by T g = least_below (stable_by T g) (count_of g)

-- section t is present and foldable, and agrees with section s at depth k
abbrev pub grouped : {M F : Type 0} → Telling M F → Graph → ℕ → ℕ → ℕ → Bool
grouped T g k s t = foldable g t && agrees_by T k g t g s

-- the class of a section at depth k: of a foldable one the lowest that agrees with it, of another the section itself
unfoldable pub class_by : {M F : Type 0} → Telling M F → Graph → ℕ → ℕ → ℕ
class_by T g k s = cond (foldable g s) (least_below (grouped T g k s) s) s

-- the representative: the lowest that agrees at every depth, which agreement at the depth of the count decides
unfoldable pub rep_by : {M F : Type 0} → Telling M F → Graph → ℕ → ℕ
rep_by T g s = class_by T g (count_of g) s

-- no two different present sections are alike
abbrev pub ApartBy : {M F : Type 0} → Telling M F → Graph → Type 0
ApartBy T g = (s t : ℕ) → Present g s → Present g t → AlikeBy T g s g t → s ≡ t

-- relocations with their targets put elsewhere

abbrev pub aimed_at : (Target → Target) → Relocation → Relocation
aimed_at f r = record r { target = f r.target }

abbrev pub aimed : (Target → Target) → Body → Body
aimed f b = with_relocations b (map (aimed_at f) b.relocations)

-- a target, where section t is now section f t
abbrev pub moved : (ℕ → ℕ) → Target → Target
moved f (Section t) = Section (f t)
moved f (Outside e) = Outside e

-- the sections made anew, each by its number and what it was
abbrev pub rebuilt : (ℕ → Option Body → Option Body) → Graph → List (Option Body)
rebuilt f g = table (λ s. f s (section_of g s)) (count_of g)

-- what becomes of section s: the representative stays, with its relocations put to the representatives; the others go
abbrev pub folded_section : (ℕ → ℕ) → ℕ → Option Body → Option Body
folded_section r s b = cond (r s == s) (option_map (aimed (moved r)) b) None

-- the folded graph: of each group the lowest number stays, the others are absent, and relocations and roots to them go to it
abbrev pub folded_by : {M F : Type 0} → Telling M F → Graph → Graph
folded_by T g =
    record { sections = rebuilt (folded_section (rep_by T g)) g; roots = map (rep_by T g) g.roots }

-- how many sections the fold makes absent
abbrev pub merged_by : {M F : Type 0} → Telling M F → Graph → ℕ
merged_by T g = count_below (λ s. present g s && not (rep_by T g s == s)) (count_of g)
