-- The section graph of an object.
use Rattle.std.specs.Prelude.{ℕ, ◌+◌, ◌-◌, ◌*◌, ◌/◌, ◌%◌, cond, not, ◌&&◌, List, [], map, take, drop, replicate, pos, ◌+ℤ◌, is_some, Some, None, Option, ◌==◌, bit_and}
use Rattle.std.specs.List.{range_with_len}
use Rattle.model.specs.declared.Setting.{Setting}
use Rattle.model.specs.declared.Setting.TheVariants.{Foldable, Pinned}
use Rattle.model.specs.declared.Target.TheVariants.{Section, Outside}
use Rattle.model.specs.declared.Relocation.{Relocation}
use Rattle.model.specs.Graph.{Body, Graph}
use Rattle.elf.specs.declared.Header.{Header}
use Rattle.elf.specs.declared.Symbol.{Symbol}
use Rattle.elf.specs.declared.Entry.{Entry}
use Rattle.elf.specs.Layout.{sections, section, present, outside, plain, entry_at}
use Rattle.rules.specs.Rules.{part, symbol}
use Rattle.rules.specs.Listing.{significance, listed}
use Rattle.rules.specs.Notes.{roots}

-- the flags without that of membership in a group
abbrev pub flags_of : Header → ℕ
flags_of h = h.flags - bit_and h.flags 0x200

-- an alignment of 0 is that of 1
abbrev pub alignment_of : Header → ℕ
alignment_of h = cond (h.alignment == 0) 1 h.alignment

-- a byte, whatever the number
abbrev pub low : ℕ → ℕ
low x = x % 256

-- the bytes of a section: zeros where the file has none
abbrev pub bytes_of : List ℕ → Header → List ℕ
bytes_of b h = cond (h.kind == 8) (replicate h.size 0) (map low (take h.size (drop h.offset b)))

-- the relocation of an entry, whose symbol is y: to an outside name, which is the symbol's number, or to a section
abbrev pub relocation_of_entry : Symbol → Entry → Relocation
relocation_of_entry y e =
    cond
    (outside y.section)
    (record { offset = e.offset; kind = e.kind; target = Outside e.symbol; displacement = e.addend })
    (record { offset = e.offset; kind = e.kind; target = Section y.section; displacement = pos y.value +ℤ e.addend })

-- entry j of those that start at a place
abbrev pub relocation_at : List ℕ → ℕ → ℕ → Relocation
relocation_at b from j = relocation_of_entry (symbol b (entry_at b (from + 24 * j)).symbol) (entry_at b (from + 24 * j))

abbrev pub relocations_in : List ℕ → Option ℕ → List Relocation
relocations_in b None = []
relocations_in b (Some r) = map (relocation_at b (section b r).offset) (range_with_len 0 ((section b r).size / 24))

-- a section is foldable if it is plain content and the address-significance table exists and lists no symbol in it
abbrev pub setting_of : List ℕ → ℕ → Setting
setting_of b i = cond (plain (section b i) && (is_some (significance b) && not (listed b i))) Foldable Pinned

abbrev pub body : List ℕ → ℕ → Body
body b i =
    record {
      flags = flags_of (section b i);
      alignment = alignment_of (section b i);
      bytes = bytes_of b (section b i);
      setting = setting_of b i;
      relocations = relocations_in b (part b i (sections b));
    }

-- section i, where it is present
abbrev pub told_section : List ℕ → ℕ → Option Body
told_section b i = cond (present (section b i)) (Some (body b i)) None

-- the section graph of an object
abbrev pub meaning : List ℕ → Graph
meaning b = record { sections = map (told_section b) (range_with_len 0 (sections b)); roots = roots b }
