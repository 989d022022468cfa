-- What the reader of a table finds at the places that it computes.
use Rattle.std.specs.Prelude.{◌≡◌, ℕ, ◌+◌, ◌-◌, ◌*◌, ◌/◌, ◌%◌, cond, List, [], length, take, drop, ℤ, pos, negsuc, Some, None, Ok, Err, Option, Result, unwrap_or, nat_lt}
use Rattle.std.specs.List.{flat_map, slice_get}
use Rattle.column.specs.Columns.{read_column}
use Rattle.model.specs.declared.Record.{Record}
use Rattle.model.specs.declared.Relocation.{Relocation}
use Rattle.row.specs.declared.Cause.{Cause}
use Rattle.row.specs.Entry.{Entry, header, section, bytes, relocation, root, end, render}
use Rattle.row.specs.Reading.{read_row}
use Rattle.layout.specs.Layout.{with_bytes, bytes_length, relocation_place}

-- the numbers of the first row: how many sections, and how many roots
abbrev pub sections_told : Result Entry Cause → ℕ
sections_told (Ok (header n k)) = n
sections_told (Ok (section s r)) = 0
sections_told (Ok (bytes bs)) = 0
sections_told (Ok (relocation r)) = 0
sections_told (Ok (root t)) = 0
sections_told (Ok (end k)) = 0
sections_told (Err c) = 0

abbrev pub roots_told : Result Entry Cause → ℕ
roots_told (Ok (header n k)) = k
roots_told (Ok (section s r)) = 0
roots_told (Ok (bytes bs)) = 0
roots_told (Ok (relocation r)) = 0
roots_told (Ok (root t)) = 0
roots_told (Ok (end k)) = 0
roots_told (Err c) = 0

abbrev pub record_told : Result Entry Cause → Option Record
record_told (Ok (header n k)) = None
record_told (Ok (section s r)) = Some r
record_told (Ok (bytes bs)) = None
record_told (Ok (relocation r)) = None
record_told (Ok (root t)) = None
record_told (Ok (end k)) = None
record_told (Err c) = None

abbrev pub relocation_told : Result Entry Cause → Option Relocation
relocation_told (Ok (header n k)) = None
relocation_told (Ok (section s r)) = None
relocation_told (Ok (bytes bs)) = None
relocation_told (Ok (relocation r)) = Some r
relocation_told (Ok (root t)) = None
relocation_told (Ok (end k)) = None
relocation_told (Err c) = None

abbrev pub root_told : Result Entry Cause → Option ℕ
root_told (Ok (header n k)) = None
root_told (Ok (section s r)) = None
root_told (Ok (bytes bs)) = None
root_told (Ok (relocation r)) = None
root_told (Ok (root t)) = Some t
root_told (Ok (end k)) = None
root_told (Err c) = None

-- the text from a section's row on, none where there is no such row
abbrev pub rows_from : List ℕ → Option ℕ → List ℕ
rows_from t None = []
rows_from t (Some p) = drop p t

-- where the column of byte i is, from the start of a section's row: 74 is the length of that row
abbrev pub byte_place : ℕ → ℕ
byte_place i = 74 + (66 * (i / 16) + (1 + 4 * (i % 16)))

-- the byte that a column holds
abbrev pub byte_told : Option ℤ → Option ℕ
byte_told None = None
byte_told (Some (pos n)) = cond (nat_lt n 256) (Some n) None
byte_told (Some (negsuc n)) = None

-- how many bytes a section's row tells: the number in its fourth columns
abbrev pub size_told : Option ℤ → Option ℕ
size_told None = None
size_told (Some (pos n)) = cond (nat_lt n 65536) (Some n) None
size_told (Some (negsuc n)) = None

-- the size that a section's row tells, from that row on: 0 where it tells none
abbrev pub size_in : List ℕ → ℕ
size_in u = unwrap_or (size_told (read_column (take 12 (drop 37 u)))) 0

-- byte i of a section, from its row on: none where the row tells no size
abbrev pub byte_in : List ℕ → ℕ → Option ℕ
byte_in u i = cond (nat_lt i (size_in u)) (byte_told (read_column (take 4 (drop (byte_place i) u)))) None

-- the text from a section's row on tells these bytes
abbrev pub Tells : List ℕ → List ℕ → Type 0
Tells u bs = (i : ℕ) → byte_in u i ≡ slice_get bs i

-- the text of the rows of some bytes
unfoldable pub byte_rows : List ℕ → List ℕ
byte_rows bs = flat_map render (with_bytes (length bs) bs [])

-- the rows of a section's bytes, from its row on
unfoldable pub byte_rows_in : List ℕ → List ℕ
byte_rows_in u = take (bytes_length (size_in u)) (drop 74 u)

-- relocation j of a section, from its row on and by its record
abbrev pub relocation_in : List ℕ → Option Record → ℕ → Option Relocation
relocation_in u None j = None
relocation_in u (Some r) j =
    cond (nat_lt j r.relocations) (relocation_told (read_row (drop (relocation_place r.size j) u))) None

-- root j of k: the rows of the roots, and then the last row, are the end of the text, and each is 14 long
abbrev pub root_in : List ℕ → ℕ → ℕ → Option ℕ
root_in t k j = cond (nat_lt j k) (root_told (read_row (drop (length t - 14 * ((k - j) + 1)) t))) None
