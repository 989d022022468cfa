-- The rules that an object has to meet, as checks in their order.
use Rattle.std.specs.Prelude.{ℕ, zero, suc, ◌+◌, ◌*◌, ◌/◌, ◌%◌, ◌^◌, Bool, false, cond, not, ◌&&◌, ◌||◌, List, [], ◌∷◌, ◌++◌, length, ℤ, pos, negsuc, is_some, Some, None, Option, ◌==◌, int_lt, nat_le, nat_lt, slice_index}
use Rattle.fault.specs.declared.Fault.{Fault}
use Rattle.fault.specs.declared.Kind.{Kind}
use Rattle.fault.specs.declared.Kind.TheVariants.{Short, Foreign, Oversize, Dangling, Misshapen}
use Rattle.fault.specs.declared.Layer.TheVariants.{Field, Format}
use Rattle.field.specs.Fields.{half, short}
use Rattle.checklist.specs.Checks.{Check, each, where_holds}
use Rattle.elf.specs.declared.Header.{Header}
use Rattle.elf.specs.declared.Symbol.{Symbol}
use Rattle.elf.specs.declared.Entry.{Entry}
use Rattle.elf.specs.Layout.{symbol_at, entry_at, sections, place, section, present, outside, aligned}
use Rattle.rules.specs.declared.Symbols.{Symbols}
use Rattle.rules.specs.declared.Part.{Part}

-- a refusal of the format at a place
abbrev pub fault_at : Kind → ℕ → Fault
fault_at k p = record { kind = k; place = p; layer = Format }

-- a part that runs past the end of the object, told by the field that says so
abbrev pub cut_at : ℕ → Fault
cut_at p = record { kind = Short; place = p; layer = Field }

abbrev pub check : Bool → Fault → Check
check t f = record { holds = t; fault = f }

-- the object's header

-- the identification of a 64-bit little-endian ELF object
abbrev pub identified : List ℕ → Bool
identified b =
    (slice_index b 0 == 0x7F)
    && (slice_index b 1 == 0x45
    && (slice_index b 2 == 0x4C
    && (slice_index b 3 == 0x46 && (slice_index b 4 == 2 && (slice_index b 5 == 1 && slice_index b 6 == 1)))))

abbrev pub head_rule : List ℕ → List Check
head_rule b =
    check (nat_le 64 (length b)) (short b)
    ∷ check (identified b) (fault_at Foreign 0)
    ∷ check (half b 16 == 1) (fault_at Foreign 16)
    ∷ check (half b 58 == 64) (fault_at Foreign 58)
    ∷ check (nat_le 1 (sections b) && nat_le (sections b) 1024) (fault_at Oversize 60)
    ∷ check (nat_le (place b (sections b)) (length b)) (cut_at 40)
    ∷ []

-- each section by itself, with the place of its header

-- what the file holds of a section ends within it
abbrev pub extent_checks : ℕ → ℕ → Header → List Check
extent_checks len p h =
    where_holds
    (not (h.kind == 0 || h.kind == 8))
    (check (nat_le (h.offset + h.size) len) (cut_at (p + 24)) ∷ [])

-- a present section is in range
abbrev pub content_checks : ℕ → Header → List Check
content_checks p h =
    where_holds
    (present h)
    (check (nat_lt h.flags (2 ^ 32)) (fault_at Misshapen (p + 8))
    ∷ check (nat_le h.size 65535) (fault_at Oversize (p + 32))
    ∷ check (aligned h.alignment) (fault_at Misshapen (p + 48))
    ∷ [])

-- the checks of section i in a pass over all sections, each by its header and the place of it
abbrev pub pass_rule : (ℕ → Header → List Check) → List ℕ → ℕ → List Check
pass_rule checks b i = checks (place b i) (section b i)

abbrev pub extent_rule : List ℕ → ℕ → List Check
extent_rule b i = pass_rule (extent_checks (length b)) b i

abbrev pub content_rule : List ℕ → ℕ → List Check
content_rule b i = pass_rule content_checks b i

-- a section that there may be only one of

abbrev pub earlier : Option ℕ → Bool → ℕ → Option ℕ
earlier (Some j) t i = Some j
earlier None t i = cond t (Some i) None

-- the first number below n that passes
abbrev pub first_where : (ℕ → Bool) → ℕ → Option ℕ
first_where f zero = None
first_where f (suc n) = earlier (first_where f n) (f n) n

abbrev pub of_kind : ℕ → List ℕ → ℕ → Bool
of_kind k b i = (section b i).kind == k

-- a section of the type after one that was found
abbrev pub only_checks : ℕ → ℕ → Header → Option ℕ → List Check
only_checks k p h found = check (not (h.kind == k && is_some found)) (fault_at Misshapen (p + 4)) ∷ []

abbrev pub only_rule : ℕ → List ℕ → ℕ → List Check
only_rule k b i = only_checks k (place b i) (section b i) (first_where (of_kind k b) i)

-- the section of this type
abbrev pub the_only : ℕ → List ℕ → Option ℕ
the_only k b = first_where (of_kind k b) (sections b)

-- the symbol table

-- a section with entries of 24 bytes, at most so many
abbrev pub table_checks : ℕ → ℕ → Header → List Check
table_checks limit p h =
    check (h.stride == 24) (fault_at Misshapen (p + 56))
    ∷ check (h.size % 24 == 0) (fault_at Misshapen (p + 32))
    ∷ check (nat_le (h.size / 24) limit) (fault_at Oversize (p + 32))
    ∷ []

-- the number of the symbol table
abbrev pub table : List ℕ → Option ℕ
table b = the_only 2 b

-- a symbol of an index is in a present section whose length its value may not pass
abbrev pub valued : List ℕ → Symbol → Bool
valued b s = not (present (section b s.section)) || nat_le s.value (section b s.section).size

abbrev pub symbol_checks : List ℕ → ℕ → Symbol → List Check
symbol_checks b q s =
    where_holds
    (not (outside s.section))
    (check (nat_lt s.section 0xff00) (fault_at Misshapen (q + 6))
    ∷ check (nat_lt s.section (sections b)) (fault_at Dangling (q + 6))
    ∷ check (valued b s) (fault_at Misshapen (q + 8))
    ∷ [])

-- the symbols that start at a place
abbrev pub symbol_rule : List ℕ → ℕ → ℕ → List Check
symbol_rule b from j = symbol_checks b (from + 24 * j) (symbol_at b (from + 24 * j))

abbrev pub table_rule_of : List ℕ → Option ℕ → List Check
table_rule_of b None = []
table_rule_of b (Some t) =
    table_checks 65536 (place b t) (section b t)
    ++ each (symbol_rule b (section b t).offset) ((section b t).size / 24)

abbrev pub table_rule : List ℕ → List Check
table_rule b = table_rule_of b (table b)

-- where the symbols stand, and how many there are
abbrev pub symbols_of : List ℕ → Option ℕ → Symbols
symbols_of b None = record { from = 0; count = 0 }
symbols_of b (Some t) = record { from = (section b t).offset; count = (section b t).size / 24 }

abbrev pub symbols : List ℕ → Symbols
symbols b = symbols_of b (table b)

-- symbol j
abbrev pub symbol : List ℕ → ℕ → Symbol
symbol b j = symbol_at b ((symbols b).from + 24 * j)

-- the sections with relocations

abbrev pub relocating : Header → Bool
relocating h = h.kind == 4 || h.kind == 9

-- section i holds relocations of the present section t
abbrev pub relocates : List ℕ → ℕ → ℕ → Bool
relocates b t i = relocating (section b i) && ((section b i).info == t && present (section b t))

-- the first section below n with relocations of section t
abbrev pub part : List ℕ → ℕ → ℕ → Option ℕ
part b t n = first_where (relocates b t) n

abbrev pub is_number : Option ℕ → ℕ → Bool
is_number None j = false
is_number (Some i) j = i == j

-- a section with relocations of a present section; whether that one has others, and whether it links the symbol table
abbrev pub fit_checks : ℕ → Header → Bool → Bool → List Check
fit_checks p h taken linked =
    check (h.kind == 4) (fault_at Misshapen (p + 4))
    ∷ check (not taken) (fault_at Misshapen (p + 44))
    ∷ check linked (fault_at Dangling (p + 40))
    ∷ table_checks 65535 p h

-- the section with relocations as a whole, but for its entries
abbrev pub part_checks : List ℕ → ℕ → ℕ → Header → List Check
part_checks b i p h =
    where_holds
    (relocating h)
    (check (nat_lt h.info (sections b)) (fault_at Dangling (p + 44))
    ∷ where_holds
    (present (section b h.info))
    (fit_checks p h (is_some (part b h.info i)) (is_number (table b) h.link)))

-- what is told of a section with relocations
abbrev pub told_part : List ℕ → Header → Option Part
told_part b h =
    cond
    (relocating h && present (section b h.info))
    (Some (record { target = h.info; size = (section b h.info).size; from = h.offset; count = h.size / 24 }))
    None

-- a symbol that a relocation may name: outside, or in a present section
abbrev pub reached : List ℕ → Symbol → Bool
reached b s = outside s.section || (nat_lt s.section (sections b) && present (section b s.section))

abbrev pub in_range : ℤ → Bool
in_range z = not (int_lt z (negsuc 2147483647)) && not (int_lt (pos 2147483647) z)

abbrev pub entry_checks : List ℕ → ℕ → ℕ → Entry → List Check
entry_checks b size q e =
    check (nat_lt e.offset size) (fault_at Misshapen q)
    ∷ check (nat_lt e.symbol (symbols b).count && reached b (symbol b e.symbol)) (fault_at Dangling (q + 8))
    ∷ check (in_range e.addend) (fault_at Misshapen (q + 16))
    ∷ []

-- entry j of those that start at a place, of a section of some size
abbrev pub entry_rule : List ℕ → ℕ → ℕ → ℕ → List Check
entry_rule b size from j = entry_checks b size (from + 24 * j) (entry_at b (from + 24 * j))

abbrev pub entry_rules : List ℕ → Option Part → List Check
entry_rules b None = []
entry_rules b (Some m) = each (entry_rule b m.size m.from) m.count

abbrev pub relocation_rule : List ℕ → ℕ → List Check
relocation_rule b i = part_checks b i (place b i) (section b i) ++ entry_rules b (told_part b (section b i))
