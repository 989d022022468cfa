-- What a fold map tells, its text, and how a text is read as one.
use Rattle.std.specs.Prelude.{ℕ, zero, suc, ◌+◌, ◌*◌, ◌/◌, Bool, true, false, not, List, length, take, drop, replicate, is_some, count_by, Some, None, Ok, Err, Option, Result, slice_index_or, slice_set}
use Rattle.std.specs.List.{range_with_len, find}
use Rattle.fault.specs.declared.Fault.{Fault}
use Rattle.fault.specs.declared.Kind.TheVariants.{BadRow, Dangling}
use Rattle.fault.specs.declared.Layer.TheVariants.{Format}
use Rattle.row_part.specs.declared.Cause.{Cause}
use Rattle.row_part.specs.Parts.{and_then}
use Rattle.pieces.specs.Writes.{pieces}
use Rattle.fates.specs.declared.Fate.{Fate}
use Rattle.fates.specs.declared.Fate.TheVariants.{Own, Folded, Swept}
use Rattle.fates.specs.declared.FoldMap.{FoldMap}
use Rattle.fates.specs.Rows.{fate_row, read_row}

-- the fates by the sections' numbers; none where a section has no row

abbrev pub fate_of : List (Option Fate) → ℕ → Option Fate
fate_of fates s = slice_index_or fates s None

abbrev pub no_fates : List (Option Fate)
no_fates = replicate 1024 None

-- the text of a map: the rows of the sections that have one, in ascending order
unfoldable pub fates_text : List (Option Fate) → List ℕ
fates_text fates = pieces (λ s. fate_row s (fate_of fates s)) 1024

-- the refusals

abbrev pub bad_row_at : ℕ → Fault
bad_row_at p = record { kind = BadRow; place = p; layer = Format }

abbrev pub dangling_at : ℕ → Fault
dangling_at p = record { kind = Dangling; place = p; layer = Format }

-- the rows of a text, each of 38 bytes; the last may be cut short
abbrev pub row_count : List ℕ → ℕ
row_count t = (length t + 37) / 38

abbrev pub row_at : List ℕ → ℕ → List ℕ
row_at t k = take 38 (drop (38 * k) t)

abbrev pub row_taken : ℕ → ℕ × List (Option Fate) → Result (ℕ × Fate) Cause → Result (ℕ × List (Option Fate)) Fault
row_taken k q (Err c) = Err (bad_row_at (38 * k))
row_taken k q (Ok row) = Ok (suc row.0, slice_set q.1 row.0 (Some row.1))

-- the first rows of a text, as many as are asked for: the lowest number that the next one may have, and the fates told; or
-- the refusal of the first row that does not form
abbrev pub rows_read : List ℕ → ℕ → Result (ℕ × List (Option Fate)) Fault
rows_read t zero = Ok (0, no_fates)
rows_read t (suc k) = and_then (rows_read t k) λ q. row_taken k q (read_row q.0 (row_at t k))

abbrev pub scanned : List ℕ → Result FoldMap Fault
scanned t = and_then (rows_read t (row_count t)) λ q. Ok (record { fates = q.1 })

-- a section is found at its own number
abbrev pub is_own : Option Fate → Bool
is_own None = false
is_own (Some Own) = true
is_own (Some (Folded p)) = false
is_own (Some Swept) = false

-- a section was folded into one that has no row which tells it its own
abbrev pub loose : List (Option Fate) → Option Fate → Bool
loose fates None = false
loose fates (Some Own) = false
loose fates (Some (Folded p)) = not (is_own (fate_of fates p))
loose fates (Some Swept) = false

-- where the row of section s begins: behind the rows of those below it
abbrev pub row_start : List (Option Fate) → ℕ → ℕ
row_start fates s = 38 * count_by (λ t. is_some (fate_of fates t)) (range_with_len 0 s)

abbrev pub unless_loose : List (Option Fate) → Option ℕ → Result FoldMap Fault
unless_loose fates None = Ok (record { fates = fates })
unless_loose fates (Some s) = Err (dangling_at (row_start fates s))

-- the map of these fates, or the refusal of the first row that names a section without a row of its own
abbrev pub checked : List (Option Fate) → Result FoldMap Fault
checked fates = unless_loose fates (find (λ s. loose fates (fate_of fates s)) (range_with_len 0 1024))

-- a text read as a fold map
abbrev pub read_map : List ℕ → Result FoldMap Fault
read_map t = and_then (scanned t) λ m. checked m.fates
