-- The text of a fold map, from the state of a pile.
use Rattle.std.specs.Prelude.{ℕ, cond, List, [], Some, None, Ok, Err, Option, Result, ◌==◌}
use Rattle.fault.specs.declared.Fault.{Fault}
use Rattle.calls.specs.declared.Place.{Place}
use Rattle.calls.specs.declared.Place.TheVariants.{At, Absent, Swept as Nowhere}
use Rattle.model.specs.Graph.{count_of}
use Rattle.runs.specs.State.{State, place_of}
use Rattle.row_writer.specs.declared.Outcome.{Outcome}
use Rattle.row_writer.specs.declared.Outcome.TheVariants.{Own, Other, Swept}
use Rattle.row_writer.specs.Writing.{moved_row}
use Rattle.pieces.specs.Writes.{pieces}

-- what the row of section s tells, by its place: an outcome and a number; a section that is absent below has no row
abbrev pub told_at : ℕ → Place → Option (Outcome × ℕ)
told_at s (At p) = Some (cond (p == s) Own Other, p)
told_at s Nowhere = Some (Swept, 0)
told_at s Absent = None

-- the same by the answer of the place question, which refuses a number that is not below the count
abbrev pub told_of : ℕ → Result Place Fault → Option (Outcome × ℕ)
told_of s (Ok place) = told_at s place
told_of s (Err f) = None

-- the row of section s, if it has one
abbrev pub row_of : ℕ → Option (Outcome × ℕ) → List ℕ
row_of s None = []
row_of s (Some told) = moved_row s told.0 told.1

-- the map: the rows of all sections, in ascending order
abbrev pub map_text : State → List ℕ
map_text st = pieces (λ s. row_of s (told_of s (place_of st s))) (count_of st.graph)
