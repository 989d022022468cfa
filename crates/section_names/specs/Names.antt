-- The names of the sections of an ELF64 file. Of any bytes at all: nothing that they say is taken for true.
use Rattle.std.specs.Prelude.{ℕ, ◌+◌, cond, Bool, not, ◌&&◌, List, length, take, drop, position, Some, None, Option, option_and_then, ◌==◌, nat_le, nat_lt}
use Rattle.field.specs.Fields.{half, word}
use Rattle.elf.specs.declared.Header.{Header}
use Rattle.elf.specs.Layout.{sections, place, section}

-- there is a section i, and its header lies in the file
abbrev pub headed : List ℕ → ℕ → Bool
headed b i = nat_lt i (sections b) && nat_le (place b i + 64) (length b)

-- where that header begins
abbrev pub header_place_of : List ℕ → ℕ → Option ℕ
header_place_of b i = cond (headed b i) (Some (place b i)) None

-- the bytes that the file has for a header, where they lie in it
abbrev pub bytes_of : List ℕ → Header → Option (List ℕ)
bytes_of b h = cond (nat_le (h.offset + h.size) (length b)) (Some (take h.size (drop h.offset b))) None

-- the number of the table of names; 0 where there is none
abbrev pub table_number : List ℕ → ℕ
table_number b = half b 62

-- the table of names
abbrev pub table_of : List ℕ → Option (List ℕ)
table_of b =
    cond (not (table_number b == 0) && headed b (table_number b)) (bytes_of b (section b (table_number b))) None

abbrev pub is_zero : ℕ → Bool
is_zero x = x == 0

-- the bytes before the first zero at a place of the table
abbrev pub ended : List ℕ → Option ℕ → Option (List ℕ)
ended xs None = None
ended xs (Some n) = Some (take n xs)

abbrev pub text_at : ℕ → List ℕ → Option (List ℕ)
text_at p xs = ended (drop p xs) (position is_zero (drop p xs))

-- the name of section i: what the table of names has at the place that the header tells, up to a zero
abbrev pub name_of : List ℕ → ℕ → Option (List ℕ)
name_of b i = cond (headed b i) (option_and_then (text_at (word b (place b i))) (table_of b)) None
