-- What a sweep and a fold make of the slots, from a mark and a class for each section.
use Rattle.std.specs.Prelude.{◌≡◌, ℕ, Bool, true, false, cond, not, ◌&&◌, List, Some, None, Option, is_some, is_none, unwrap_or, length, replicate, ◌==◌, slice_index, slice_index_or}
use Rattle.calls.specs.declared.Slot.{Slot}
use Rattle.calls.specs.declared.Slot.TheVariants.{Untouched, Folded, Swept}
use Rattle.runs.specs.State.{slots_by}
use Rattle.steps.specs.Below.{count_below}
use Rattle.slots.specs.declared.Slots.{Slots}

-- a slot for each number
abbrev pub Full : Slots → Type 0
Full x = length x.list ≡ 1024

-- nothing happened
abbrev pub fresh : Slots
fresh = record { list = replicate 1024 Untouched }

-- section s stays in a sweep: it is present and reached
abbrev pub stays : List Bool → List Bool → ℕ → Bool
stays there reached s = slice_index_or there s false && slice_index_or reached s false

-- and goes: it is present and not reached
abbrev pub drops : List Bool → List Bool → ℕ → Bool
drops there reached s = slice_index_or there s false && not (slice_index_or reached s false)

abbrev pub dropped_slot : List Bool → List Bool → ℕ → Slot → Slot
dropped_slot there reached s old = cond (drops there reached s) Swept old

-- section s stays in a fold: it is present and leads its class
abbrev pub leads : List Bool → List ℕ → ℕ → Bool
leads there class s = slice_index_or there s false && slice_index class s == s

-- and goes: it is present and another one leads its class
abbrev pub joins : List Bool → List ℕ → ℕ → Bool
joins there class s = slice_index_or there s false && not (slice_index class s == s)

abbrev pub joined_slot : List Bool → List ℕ → ℕ → Slot → Slot
joined_slot there class s old = cond (joins there class s) (Folded (slice_index class s)) old

-- by a rule that has a slot for some sections: section s is there and stays
abbrev pub stays_by : List Bool → (ℕ → Option Slot) → ℕ → Bool
stays_by there rule s = slice_index_or there s false && is_none (rule s)

-- and goes
abbrev pub goes_by : List Bool → (ℕ → Option Slot) → ℕ → Bool
goes_by there rule s = slice_index_or there s false && is_some (rule s)

abbrev pub slot_by : List Bool → (ℕ → Option Slot) → ℕ → Slot → Slot
slot_by there rule s old = cond (slice_index_or there s false) (unwrap_or (rule s) old) old

-- the rule of a sweep, and of a fold

abbrev pub sweep_rule : List Bool → ℕ → Option Slot
sweep_rule reached s = cond (slice_index_or reached s false) None (Some Swept)

abbrev pub fold_rule : List ℕ → ℕ → Option Slot
fold_rule class s = cond (slice_index class s == s) None (Some (Folded (slice_index class s)))

-- the first n slots made anew by a rule, with the counts of those that pass one test and the other
pub record Turned (rule : ℕ → Slot → Slot) (p q : ℕ → Bool) (n : ℕ) (old new : Slots) (a b : ℕ) : Type 0 where
  pub list : new.list ≡ slots_by rule n old.list
  pub kept : a ≡ count_below p n
  pub gone : b ≡ count_below q n
