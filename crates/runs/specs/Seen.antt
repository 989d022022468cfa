-- The pile's graph as the drawn graph seen through the slots.
use Rattle.std.specs.Prelude.{◌≡◌, ℕ, List, map, None, Option}
use Rattle.std.specs.Option.{option_map}
use Rattle.model.specs.Graph.{Body, Graph}
use Rattle.model.specs.Laws.{Valid}
use Rattle.unfolding.specs.Groups.{aimed, moved, rebuilt}
use Rattle.calls.specs.declared.Slot.{Slot}
use Rattle.calls.specs.declared.Slot.TheVariants.{Untouched, Folded, Swept}
use Rattle.calls.specs.declared.Call.{Call}
use Rattle.calls.specs.declared.Place.{Place}
use Rattle.calls.specs.declared.Place.TheVariants.{At, Absent, Swept as Nowhere}
use Rattle.runs.specs.State.{after, slot_of, found_at}

-- the number of a place; where there is none, a number that nobody asks for
abbrev pub number_or : ℕ → Place → ℕ
number_or s (At p) = p
number_or s Nowhere = s
number_or s Absent = s

-- the number at which section s is found
abbrev pub found_number : List Slot → ℕ → ℕ
found_number slots s = number_or s (found_at slots s)

-- what is left of a section with this slot
abbrev pub left_of : Slot → Option Body → Option Body
left_of Untouched b = b
left_of (Folded t) b = None
left_of Swept b = None

abbrev pub seen_section : List Slot → ℕ → Option Body → Option Body
seen_section slots s b = left_of (slot_of slots s) (option_map (aimed (moved (found_number slots))) b)

-- untouched sections stay, and relocations and roots point at the places of what they pointed at
abbrev pub seen_through : List Slot → Graph → Graph
seen_through slots d =
    record { sections = rebuilt (seen_section slots) d; roots = map (found_number slots) d.roots }

-- after any calls the pile's graph is the drawn graph seen through the slots
abbrev pub PileSeen : Type 0
PileSeen =
    (g : Graph) → Valid g → (calls : List Call) → (after g calls).graph ≡ seen_through (after g calls).slots (after g calls).drawn
