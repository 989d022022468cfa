-- A row of a fold map: what it is written as, and what is read.
use Rattle.std.specs.Prelude.{ℕ, cond, ◌&&◌, List, [], Some, None, Ok, Err, Option, Result, ◌==◌, nat_le, nat_lt, slice_index}
use Rattle.row_part.specs.declared.Cause.{Cause}
use Rattle.row_part.specs.declared.Cause.TheVariants.{Letter, Range}
use Rattle.row_part.specs.Parts.{and_then, natural_at, end_at}
use Rattle.row_writer.specs.declared.Outcome.TheVariants.{Own as Itself, Other as Another, Swept as Nowhere}
use Rattle.row_writer.specs.Writing.{moved_row}
use Rattle.fates.specs.declared.Fate.{Fate}
use Rattle.fates.specs.declared.Fate.TheVariants.{Own, Folded, Swept}

-- the row of section s by its fate, if it has one
abbrev pub fate_row : ℕ → Option Fate → List ℕ
fate_row s None = []
fate_row s (Some Own) = moved_row s Itself s
fate_row s (Some (Folded p)) = moved_row s Another p
fate_row s (Some Swept) = moved_row s Nowhere 0

-- the fate that an outcome and a place tell of section s: a section that was folded is found at a lower number
abbrev pub fate_by : ℕ → ℕ → ℕ → Result Fate Cause
fate_by s o p =
    cond (o == 1 && p == s) (Ok Own)
    (cond (o == 2 && nat_lt p s) (Ok (Folded p))
    (cond (o == 3 && p == 0) (Ok Swept) (Err Range)))

abbrev pub row_columns : ℕ → List ℕ → Result (ℕ × Fate) Cause
row_columns low t =
    and_then (natural_at 12 t 1 1023) λ s.
    and_then (natural_at 12 t 13 3) λ o.
    and_then (natural_at 12 t 25 1023) λ p.
    and_then (fate_by s o p) λ f.
    and_then (end_at t 37) λ _.
    cond (nat_le low s) (Ok (s, f)) (Err Range)

-- the row that a text begins with, which tells of no section below `low`: a section and its fate
unfoldable pub read_row : ℕ → List ℕ → Result (ℕ × Fate) Cause
read_row low t = cond (slice_index t 0 == 77) (row_columns low t) (Err Letter)
