-- Where the parts of an ELF64 object stand, and what their fields say. What lies past the end reads as 0.
use Rattle.std.specs.Prelude.{ℕ, ◌+◌, ◌*◌, ◌/◌, ◌%◌, ◌^◌, Bool, not, ◌&&◌, ◌||◌, List, ◌==◌, bit_and}
use Rattle.field.specs.Fields.{half, word, long, signed}
use Rattle.model.specs.Laws.{is_alignment}
use Rattle.elf.specs.declared.Header.{Header}
use Rattle.elf.specs.declared.Symbol.{Symbol}
use Rattle.elf.specs.declared.Entry.{Entry}

-- the section header at a place
abbrev pub header_at : List ℕ → ℕ → Header
header_at b p =
    record {
      kind = word b (p + 4);
      flags = long b (p + 8);
      offset = long b (p + 24);
      size = long b (p + 32);
      link = word b (p + 40);
      info = word b (p + 44);
      alignment = long b (p + 48);
      stride = long b (p + 56);
    }

-- the symbol at a place
abbrev pub symbol_at : List ℕ → ℕ → Symbol
symbol_at b p = record { section = half b (p + 6); value = long b (p + 8) }

-- the relocation entry at a place
abbrev pub entry_at : List ℕ → ℕ → Entry
entry_at b p =
    record {
      offset = long b p;
      kind = long b (p + 8) % 2 ^ 32;
      symbol = long b (p + 8) / 2 ^ 32;
      addend = signed b (p + 16);
    }

-- how many sections there are
abbrev pub sections : List ℕ → ℕ
sections b = half b 60

-- the place of the header of section i
abbrev pub place : List ℕ → ℕ → ℕ
place b i = long b 40 + 64 * i

-- the header of section i
abbrev pub section : List ℕ → ℕ → Header
section b i = header_at b (place b i)

-- a flag is set
abbrev pub has : ℕ → ℕ → Bool
has flags flag = not (bit_and flags flag == 0)

-- the types that are no part of the graph: none, the symbol table, the string table, relocations, groups, the extended
-- section indexes and the address-significance table
abbrev pub apart : ℕ → Bool
apart k =
    (k == 0) || (k == 2 || (k == 3 || (k == 4 || (k == 9 || (k == 17 || (k == 18 || k == 0x6fff4c03))))))

-- a section is present if it takes room in memory and is of no such type
abbrev pub present : Header → Bool
present h = has h.flags 2 && not (apart h.kind)

-- a symbol with this section index is not defined in a section: undefined, absolute or common
abbrev pub outside : ℕ → Bool
outside s = s == 0 || (s == 0xfff1 || s == 0xfff2)

-- an alignment that is allowed: 0, or a power of two up to 65,536
abbrev pub aligned : ℕ → Bool
aligned a = a == 0 || is_alignment a

-- a root: kept for what it is
abbrev pub root : Header → Bool
root h = present h && (h.kind == 14 || (h.kind == 15 || (h.kind == 16 || has h.flags 0x200000)))

-- a section that may be folded if no symbol in it is listed: plain content, no root, neither written nor merged nor of
-- thread-local storage nor with another's section as its order
abbrev pub plain : Header → Bool
plain h =
    (h.kind == 1)
    && (not (root h) && not (has h.flags 0x1 || (has h.flags 0x10 || (has h.flags 0x80 || has h.flags 0x400))))
