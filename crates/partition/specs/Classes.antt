-- Classes of sections at a depth, their bases, and one round.
use Rattle.std.specs.Prelude.{◌≡◌, ℕ, suc, ◌<◌, ◌≤◌, Bool, true, false, cond, ◌&&◌, List, length, Option, ◌==◌, slice_index, slice_index_or, unwrap_or}
use Rattle.model.specs.Graph.{Graph, section_of}
use Rattle.graph.specs.Bytes.{relocations_in}
use Rattle.steps.specs.Below.{least_below}
use Rattle.unfolding.specs.Depth.{same_list}
use Rattle.unfolding.specs.Groups.{foldable, class_by}
use Rattle.unfolding.specs.Sections.{rules, rounds}
use Rattle.content.specs.Core.{core_of, same_core, digest_core}
use Rattle.content.specs.Aims.{same_aim}
use Rattle.partition.specs.declared.Base.{Base}

-- m is the lowest from `low` on that passes, and n if none below n does
pub record Found (p : ℕ → Bool) (low n m : ℕ) : Type 0 where
  pub from : low ≤ n → low ≤ m
  pub before : (t : ℕ) → low ≤ t → t < m → p t ≡ false
  pub found : m < n → p m ≡ true
  pub bounded : m ≤ n

-- the same of a test that is known by what it gives for the numbers from `low` on and below n
pub record Finds (gives : ℕ → Bool → Type 0) (low n m : ℕ) : Type 0 where
  pub from : low ≤ n → low ≤ m
  pub before : (t : ℕ) → low ≤ t → t < m → gives t false
  pub found : m < n → (low ≤ m) × gives m true
  pub bounded : m ≤ n

-- bases

-- section t is foldable and has the core of section s
abbrev pub cored : Graph → ℕ → ℕ → Bool
cored g s t = foldable g t && same_core (section_of g t) (section_of g s)

abbrev pub digest_of : Graph → ℕ → ℕ
digest_of g s = digest_core (core_of (section_of g s))

-- the base of a section that is not foldable: no section leads it
abbrev pub no_base : Base
no_base = record { leader = 1024; digest = 0 }

-- the base of a foldable section: the lowest such section, and the digest of the core
unfoldable pub base_at : Graph → ℕ → Base
base_at g s = cond (foldable g s) (record { leader = least_below (cored g s) s; digest = digest_of g s }) no_base

-- the base of section t in a list of bases, one of zeros past the end
abbrev pub base_in : List Base → ℕ → Base
base_in bases t = slice_index_or bases t (record { leader = 0; digest = 0 })

abbrev pub is_led_by : Base → ℕ → Bool
is_led_by b t = b.leader == t

abbrev pub same_leader : Base → Base → Bool
same_leader a b = a.leader == b.leader

-- one leader and one digest; for the bases of sections the leader alone decides
abbrev pub same_base : Base → Base → Bool
same_base a b = same_leader a b && a.digest == b.digest

-- section t leads its base, and has the core of section s
abbrev pub based : Graph → List Base → ℕ → ℕ → Bool
based g bases s t = is_led_by (base_in bases t) t && same_core (section_of g t) (section_of g s)

-- the bases of the sections below n
abbrev pub Based : Graph → List Base → ℕ → Type 0
Based g bases n = (t : ℕ) → t < n → base_in bases t ≡ base_at g t

pub record Bases (g : Graph) (bases : List Base) : Type 0 where
  pub sized : length bases ≡ 1024
  pub at : Based g bases 1024

-- classes

-- the class of section s at depth k: of a foldable one the lowest that agrees with it at that depth, of another the section itself
abbrev pub class_at : Graph → ℕ → ℕ → ℕ
class_at g k s = class_by rules g k s

-- the class at depth 0, where the lowest foldable section is known
abbrev pub marked_class : Graph → Option ℕ → ℕ → ℕ
marked_class g first s = cond (foldable g s) (unwrap_or first s) s

-- the classes at depth k of the sections below n
abbrev pub Classed : Graph → ℕ → List ℕ → ℕ → Type 0
Classed g k cs n = (s : ℕ) → s < n → slice_index cs s ≡ class_at g k s

pub record Classes (g : Graph) (k : ℕ) (cs : List ℕ) : Type 0 where
  pub sized : length cs ≡ 1024
  pub at : Classed g k cs 1024

-- section t leads its new class, and has the old class of section s, its base, and targets in the same old classes
abbrev pub joined : Graph → List Base → List ℕ → List ℕ → ℕ → ℕ → Bool
joined g bases old new s t =
    (slice_index new t == t) &&
    (slice_index old t == slice_index old s &&
    (same_base (base_in bases t) (base_in bases s) &&
    same_list (same_aim old) (relocations_in (section_of g t)) (relocations_in (section_of g s))))

-- whatever depth the old classes are those of, the new ones are those of the next
abbrev pub Refined : Graph → List ℕ → List ℕ → Type 0
Refined g old new = (k : ℕ) → Classes g k old → Classes g (suc k) new

-- the classes are those at depth k, and no lower depth has the groups of the next
pub record Turn (g : Graph) (k : ℕ) (cs : List ℕ) : Type 0 where
  pub classes : Classes g k cs
  pub early : k ≤ rounds g
