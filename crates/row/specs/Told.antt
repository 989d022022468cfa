-- What a row that was read tells, and the part of the text that it occupies.
use Rattle.std.specs.Prelude.{◌≡◌, ℕ, zero, suc, ◌+◌, ◌*◌, ◌<◌, List, [], ◌∷◌, ◌++◌, length, take, drop, ℤ, pos, negsuc, Some, None, Ok, Err, Option, Result}
use Rattle.std.specs.List.{AllByRecursion}
use Rattle.column.specs.Columns.{columns, read_column}
use Rattle.row_part.specs.declared.Cause.{Cause}
use Rattle.row.specs.declared.Row.{Row}
use Rattle.row.specs.declared.Row.TheVariants as row
use Rattle.row.specs.Entry.{Entry, header, section, bytes, relocation, root, end, letter, width, numbers, render, Ranged}
use Rattle.row.specs.Reading.{read_row}

-- what a column holds, where that is a natural number
abbrev pub value : Option ℤ → ℕ
value None = 0
value (Some (pos n)) = n
value (Some (negsuc n)) = 0

-- as many values as are asked for, from columns of four
abbrev pub values : ℕ → List ℕ → List ℕ
values zero t = []
values (suc n) t = value (read_column (take 4 t)) ∷ values n (drop 4 t)

-- the values of a B row, after its letter
abbrev pub byte_values : ℕ → List ℕ → List ℕ
byte_values count part = values count (drop 1 part)

abbrev pub told : Row → Entry
told (row.Header part n k) = header n k
told (row.Section part s r) = section s r
told (row.Bytes part count) = bytes (byte_values count part.now)
told (row.Relocation part r) = relocation r
told (row.Root part s) = root s
told (row.End part k) = end k

-- the part of the text that the row occupies
abbrev pub part_of : Row → List ℕ
part_of (row.Header part n k) = part.now
part_of (row.Section part s r) = part.now
part_of (row.Bytes part count) = part.now
part_of (row.Relocation part r) = part.now
part_of (row.Root part s) = part.now
part_of (row.End part k) = part.now

abbrev pub answer : Result Row Cause → Result Entry Cause
answer (Ok r) = Ok (told r)
answer (Err e) = Err e

-- how long the row is, byte 10 included
abbrev pub row_length : Entry → ℕ
row_length (header n k) = 26
row_length (section s r) = 74
row_length (bytes bs) = 2 + 4 * length bs
row_length (relocation r) = 62
row_length (root s) = 14
row_length (end k) = 14

-- the part is the front of the text, as long as the row
abbrev pub Cut : List ℕ → Result Row Cause → Type 0
Cut t (Ok r) = part_of r ≡ take (row_length (told r)) t
Cut t (Err e) = Unit {0}

-- the part is the text of what the row tells
abbrev pub Occupies : Result Row Cause → Type 0
Occupies (Ok r) = part_of r ≡ render (told r)
Occupies (Err e) = Unit {0}

-- what is promised of rows: a row's text is read as what it tells, whatever follows it
abbrev pub ReadBack : Type 0
ReadBack = (e : Entry) → Ranged e → (t : List ℕ) → read_row (render e ++ t) ≡ Ok e

-- nothing but a row's text is read
abbrev pub OnlyWritten : Type 0
OnlyWritten = (t : List ℕ) (e : Entry) → read_row t ≡ Ok e → Ranged e × (t ≡ render e ++ drop (length (render e)) t)

-- a row ends at its first byte 10, and its length depends on its kind alone
abbrev pub EndsOnce : Type 0
EndsOnce = (e : Entry) → Ranged e → AllByRecursion (λ b. 10 < b) (letter e ∷ columns (width e) (numbers e))

abbrev pub AsLong : Type 0
AsLong = (e : Entry) → Ranged e → length (render e) ≡ row_length e
