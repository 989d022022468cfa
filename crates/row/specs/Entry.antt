-- What a row of a section table tells, its text, and the ranges of its numbers.
use Rattle.std.specs.Prelude.{ℕ, ◌^◌, ◌<◌, ◌≤◌, List, [], ◌∷◌, ◌++◌, map, length, ℤ, pos}
use Rattle.std.specs.List.{AllByRecursion}
use Rattle.model.specs.declared.Setting.{Setting}
use Rattle.model.specs.declared.Setting.TheVariants.{Foldable, Pinned}
use Rattle.model.specs.declared.Target.{Target}
use Rattle.model.specs.declared.Target.TheVariants.{Section, Outside}
use Rattle.model.specs.declared.Relocation.{Relocation}
use Rattle.model.specs.declared.Record.{Record}
use Rattle.model.specs.Laws.{Alignment, LawfulRelocation}
use Rattle.column.specs.Columns.{columns}

-- what a row tells: how many sections and roots a table has, a section, some of its bytes, one of its relocations, a
-- root, and at the end how many sections are present
pub data Entry : Type 0 where
  header : (sections roots : ℕ) → Entry
  section : (number : ℕ) (told : Record) → Entry
  bytes : (values : List ℕ) → Entry
  relocation : (told : Relocation) → Entry
  root : (number : ℕ) → Entry
  end : (present : ℕ) → Entry

abbrev pub setting_number : Setting → ℕ
setting_number Foldable = 0
setting_number Pinned = 1

abbrev pub target_kind : Target → ℕ
target_kind (Section t) = 0
target_kind (Outside e) = 1

abbrev pub target_number : Target → ℕ
target_number (Section t) = t
target_number (Outside e) = e

-- H, S, B, R, T, E
abbrev pub letter : Entry → ℕ
letter (header n k) = 72
letter (section s r) = 83
letter (bytes bs) = 66
letter (relocation r) = 82
letter (root t) = 84
letter (end k) = 69

-- how many columns a number takes
abbrev pub width : Entry → ℕ
width (header n k) = 12
width (section s r) = 12
width (bytes bs) = 4
width (relocation r) = 12
width (root t) = 12
width (end k) = 12

abbrev pub record_numbers : Record → List ℤ
record_numbers r =
    pos r.flags
    ∷ pos r.alignment
    ∷ pos r.size
    ∷ pos r.relocations
    ∷ pos (setting_number r.setting)
    ∷ []

abbrev pub relocation_numbers : Relocation → List ℤ
relocation_numbers r =
    pos r.offset
    ∷ pos r.kind
    ∷ pos (target_kind r.target)
    ∷ pos (target_number r.target)
    ∷ r.displacement
    ∷ []

abbrev pub numbers : Entry → List ℤ
numbers (header n k) = pos n ∷ pos k ∷ []
numbers (section s r) = pos s ∷ record_numbers r
numbers (bytes bs) = map pos bs
numbers (relocation r) = relocation_numbers r
numbers (root t) = pos t ∷ []
numbers (end k) = pos k ∷ []

-- the row's text: the letter, the numbers in columns, and byte 10
abbrev pub render : Entry → List ℕ
render e = letter e ∷ (columns (width e) (numbers e) ++ 10 ∷ [])

pub record RangedRecord (r : Record) : Type 0 where
  pub flags : r.flags < 2 ^ 32
  pub alignment : Alignment r.alignment
  pub size : r.size < 2 ^ 16
  pub relocations : r.relocations < 2 ^ 16

-- the ranges of a row's numbers, whatever the rows beside it: the section of a relocation or a root is any number that
-- fits 16 bits, and an offset is below some length
abbrev pub Ranged : Entry → Type 0
Ranged (header n k) = (n ≤ 1024) × (k ≤ 4096)
Ranged (section s r) = (s < 1024) × RangedRecord r
Ranged (bytes bs) = (0 < length bs) × (length bs ≤ 16) × AllByRecursion (λ b. b < 2 ^ 8) bs
Ranged (relocation r) = LawfulRelocation (λ t. t < 2 ^ 16) 65535 r
Ranged (root t) = t < 2 ^ 16
Ranged (end k) = k ≤ 1024
