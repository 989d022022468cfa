-- Which sections have a row.
use Rattle.std.specs.Prelude.{◌≡◌, ℕ, List, Some, None}
use Rattle.model.specs.Graph.{Graph, Present}
use Rattle.model.specs.Laws.{Valid}
use Rattle.calls.specs.declared.Call.{Call}
use Rattle.runs.specs.State.{State, place_of, after}
use Rattle.row_writer.specs.declared.Outcome.{Outcome}
use Rattle.foldmap.specs.Map.{told_of}

-- section s has a row exactly if it is present in g
pub record HasRow (g : Graph) (st : State) (s : ℕ) : Type 0 where
  pub present : Present g s → (told : Outcome × ℕ) × (told_of s (place_of st s) ≡ Some told)
  pub absent : (Present g s → ⊥) → told_of s (place_of st s) ≡ None

-- so it is after any calls on a new pile over g
abbrev pub RowsStand : Type 0
RowsStand = (g : Graph) → Valid g → (calls : List Call) → (s : ℕ) → HasRow g (after g calls) s
