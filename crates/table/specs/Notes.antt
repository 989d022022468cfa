-- What the reader of a table notes while it checks the text: where the row of each present section begins.
use Rattle.std.specs.Prelude.{ℕ, ◌+◌, Bool, false, cond, not, List, [], ◌∷◌, length, replicate, is_some, Some, None, Ok, Err, Option, Result, slice_index_or, slice_set}
use Rattle.fault.specs.declared.Fault.{Fault}
use Rattle.lines.specs.Lines.{lines}
use Rattle.row.specs.declared.Cause.{Cause}
use Rattle.row.specs.Entry.{Entry, header, section, bytes, relocation, root, end}
use Rattle.row.specs.Reading.{read_row}
use Rattle.layout.specs.declared.State.{State}
use Rattle.layout.specs.declared.State.TheVariants.{Start}
use Rattle.layout.specs.Order.{is_done}
use Rattle.layout.specs.Reading.{step_line, named, bad_row_at, dangling_at}
use Rattle.table.specs.declared.scan.Starts.{Starts}

-- the place of a section's row, at the section's number
abbrev pub note_entry : Entry → ℕ → List (Option ℕ) → List (Option ℕ)
note_entry (header n k) at xs = xs
note_entry (section s r) at xs = slice_set xs s (Some at)
note_entry (bytes bs) at xs = xs
note_entry (relocation r) at xs = xs
note_entry (root t) at xs = xs
note_entry (end k) at xs = xs

abbrev pub note : Result Entry Cause → ℕ → List (Option ℕ) → List (Option ℕ)
note (Ok e) at xs = note_entry e at xs
note (Err c) at xs = xs

-- the notes on some rows that begin at `at`, added to earlier ones
abbrev pub noted : ℕ → List (List ℕ) → List (Option ℕ) → List (Option ℕ)
noted at [] xs = xs
noted at (l ∷ ls) xs = noted (at + length l) ls (note (read_row l) at xs)

-- no section has a row
abbrev pub no_notes : List (Option ℕ)
no_notes = replicate 1024 None

-- the starts that a walk answered
abbrev pub starts_in : Result Starts Fault → Result (List (Option ℕ)) Fault
starts_in (Ok x) = Ok x.places
starts_in (Err f) = Err f

abbrev pub starts_of : List ℕ → List (Option ℕ)
starts_of t = noted 0 (lines t) no_notes

abbrev pub scan_after : ℕ → (State → Result (List (Option ℕ)) Fault) → Option State → Result (List (Option ℕ)) Fault
scan_after at rest None = Err (bad_row_at at)
scan_after at rest (Some q) = rest q

-- the rows from `at` on, checked and noted: all notes, or the refusal of the first row that does not form
abbrev pub scan_from : ℕ → List (List ℕ) → State → List (Option ℕ) → Result (List (Option ℕ)) Fault
scan_from at [] q xs = cond (is_done q) (Ok xs) (Err (bad_row_at at))
scan_from at (l ∷ ls) q xs =
    scan_after at (λ p. scan_from (at + length l) ls p (note (read_row l) at xs)) (step_line q l)

abbrev pub scanned : List ℕ → Result (List (Option ℕ)) Fault
scanned t = scan_from 0 (lines t) Start no_notes

-- a section that a row names has no start
abbrev pub unnoted : List (Option ℕ) → Option ℕ → Bool
unnoted xs None = false
unnoted xs (Some t) = not (is_some (slice_index_or xs t None))

abbrev pub target_on : List (Option ℕ) → ℕ → Result (Unit {0}) Fault → Result Entry Cause → Result (Unit {0}) Fault
target_on xs at rest (Ok e) = cond (unnoted xs (named e)) (Err (dangling_at at)) rest
target_on xs at rest (Err c) = Err (bad_row_at at)

-- the refusal of the first row from `at` on that does not form or that names a section without a start, if there is one
abbrev pub targets_from : List (Option ℕ) → ℕ → List (List ℕ) → Result (Unit {0}) Fault
targets_from xs at [] = Ok tt
targets_from xs at (l ∷ ls) = target_on xs at (targets_from xs (at + length l) ls) (read_row l)
