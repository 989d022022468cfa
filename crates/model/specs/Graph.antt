-- A section graph as a plain value, and the answer to each question about it.
use Rattle.std.specs.Prelude.{◌≡◌, ℕ, true, List, [], length, is_some, Some, None, Option, slice_index_or}
use Rattle.std.specs.List.{slice_get}
use Rattle.model.specs.declared.Setting.{Setting}
use Rattle.model.specs.declared.Target.{Target}
use Rattle.model.specs.declared.Target.TheVariants.{Section, Outside}
use Rattle.model.specs.declared.Relocation.{Relocation}
use Rattle.model.specs.declared.Record.{Record}

-- the section that a target names, if it is one
abbrev pub section_named : Target → Option ℕ
section_named (Section t) = Some t
section_named (Outside e) = None

-- the outside name, if it is one
abbrev pub outside_named : Target → Option ℕ
outside_named (Section t) = None
outside_named (Outside e) = Some e

-- a present section
pub record Body : Type 0 where
  pub flags : ℕ
  pub alignment : ℕ
  pub bytes : List ℕ
  pub setting : Setting
  pub relocations : List Relocation

-- the sections by number, where `None` is an absent one, and the roots
pub record Graph : Type 0 where
  pub sections : List (Option Body)
  pub roots : List ℕ

-- no section and no root
abbrev pub empty : Graph
empty = record { sections = []; roots = [] }

-- the section of a number, absent too where the number is not below the count
abbrev pub section_of : Graph → ℕ → Option Body
section_of g s = slice_index_or g.sections s None

abbrev pub Present : Graph → ℕ → Type 0
Present g s = is_some (section_of g s) ≡ true

-- the questions

abbrev pub record_in : Body → Record
record_in b =
    record {
      flags = b.flags;
      alignment = b.alignment;
      size = length b.bytes;
      relocations = length b.relocations;
      setting = b.setting;
    }

abbrev pub told_record : Option Body → Option Record
told_record None = None
told_record (Some b) = Some (record_in b)

abbrev pub told_byte : Option Body → ℕ → Option ℕ
told_byte None i = None
told_byte (Some b) i = slice_get b.bytes i

abbrev pub told_relocation : Option Body → ℕ → Option Relocation
told_relocation None j = None
told_relocation (Some b) j = slice_get b.relocations j

-- how many sections there are, absent ones too
abbrev pub count_of : Graph → ℕ
count_of g = length g.sections

abbrev pub record_of : Graph → ℕ → Option Record
record_of g s = told_record (section_of g s)

-- byte i of section s
abbrev pub byte_of : Graph → ℕ → ℕ → Option ℕ
byte_of g s i = told_byte (section_of g s) i

-- relocation j of section s
abbrev pub relocation_of : Graph → ℕ → ℕ → Option Relocation
relocation_of g s j = told_relocation (section_of g s) j

abbrev pub root_count_of : Graph → ℕ
root_count_of g = length g.roots

abbrev pub root_of : Graph → ℕ → Option ℕ
root_of g j = slice_get g.roots j
