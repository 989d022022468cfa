-- A pile's fold map, written and read.
use Rattle.std.specs.Prelude.{◌≡◌, ℕ, cond, List, Some, None, Ok, Err, Option, Result, ◌==◌}
use Rattle.fault.specs.declared.Fault.{Fault}
use Rattle.model.specs.Graph.{Graph}
use Rattle.model.specs.Laws.{Valid}
use Rattle.calls.specs.declared.Call.{Call}
use Rattle.calls.specs.declared.Place.{Place}
use Rattle.calls.specs.declared.Place.TheVariants.{At, Absent, Swept as Nowhere}
use Rattle.runs.specs.State.{State, place_of, after}
use Rattle.foldmap.specs.Map.{map_text}
use Rattle.fates.specs.declared.Fate.{Fate}
use Rattle.fates.specs.declared.Fate.TheVariants.{Own, Folded, Swept}
use Rattle.fates.specs.declared.FoldMap.{FoldMap}
use Rattle.fates.specs.Maps.{fate_of, read_map}

-- the fate of section s by the answer of the place question: none if it is absent below, or not below the count
abbrev pub fate_told : ℕ → Result Place Fault → Option Fate
fate_told s (Ok (At p)) = Some (cond (p == s) Own (Folded p))
fate_told s (Ok Nowhere) = Some Swept
fate_told s (Ok Absent) = None
fate_told s (Err f) = None

-- the map of the pile is accepted, and tells of every number what the place question answers
pub record ReadsBack (st : State) : Type 0 where
  pub map : FoldMap
  pub read : read_map (map_text st) ≡ Ok map
  pub tells : (s : ℕ) → fate_of map.fates s ≡ fate_told s (place_of st s)

-- so it is after any calls on a new pile over any section graph
abbrev pub MapsReadBack : Type 0
MapsReadBack = (g : Graph) → Valid g → (calls : List Call) → ReadsBack (after g calls)
