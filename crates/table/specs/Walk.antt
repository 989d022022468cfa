-- The rows of a text one by one, each with the place where it begins.
use Rattle.std.specs.Prelude.{◌≡◌, ℕ, ◌+◌, ◌<◌, ◌≤◌, length, drop, Some, None, Ok, Err, Option, Result}
use Rattle.fault.specs.declared.Fault.{Fault}
use Rattle.row.specs.declared.Row.{Row}
use Rattle.row.specs.declared.Cause.{Cause}
use Rattle.row.specs.Entry.{render}
use Rattle.row.specs.Reading.{read_row}
use Rattle.row.specs.Told.{told}
use Rattle.layout.specs.Reading.{bad_row_at}
use Rattle.table.specs.declared.scan.Rows.{Rows}

-- what comes next: a row, after which the rows behind it come; the refusal of one that does not form; or nothing at the
-- end of the text
abbrev pub Gives : Rows → Option (Result (ℕ × Row) Fault) → Rows → Type 0
Gives s None rest = length s.text.now ≤ s.at
Gives s (Some (Err f)) rest =
    (s.at < length s.text.now) × (f ≡ bad_row_at s.at) × ((c : Cause) × (read_row (drop s.at s.text.now) ≡ Err c))
Gives s (Some (Ok p)) rest =
    (s.at < length s.text.now)
    × (p.0 ≡ s.at)
    × (read_row (drop s.at s.text.now) ≡ Ok (told p.1))
    × (rest.text.now ≡ s.text.now)
    × (rest.at ≡ s.at + length (render (told p.1)))
