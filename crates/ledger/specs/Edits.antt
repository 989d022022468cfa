-- The inner table of a pile, and what each change makes of it.
use Rattle.std.specs.Prelude.{◌≡◌, ℕ, ◌≤◌, Bool, true, false, [], ◌∷◌, ◌++◌, length, replicate, slice_set}
use Rattle.arrayvec.specs.ArrayVec.{array_vec_len}
use Rattle.calls.specs.declared.Slot.{Slot}
use Rattle.slots.specs.declared.Slots.{Slots}
use Rattle.slots.specs.Turns.{Full, Turned, fresh as fresh_slots}
use Rattle.ledger.specs.declared.Ledger.{Ledger}

-- nothing was called
abbrev pub fresh : Ledger
fresh =
    record {
      slots = fresh_slots;
      pins = replicate 1024 false;
      binds = record { items = [] };
      roots = record { items = [] };
      closed = false;
    }

-- the bounds that every change keeps
pub record Bounds (t : Ledger) : Type 0 where
  pub slots : Full t.slots
  pub pins : length t.pins ≡ 1024
  pub binds : array_vec_len t.binds ≤ 64
  pub roots : array_vec_len t.roots ≤ 64

-- name e stands for section s from now on
abbrev pub with_bind : Ledger → ℕ → ℕ → Ledger
with_bind t e s =
    record t { binds = record { items = t.binds.items ++ record { name = e; section = s } ∷ [] } }

-- section s is pinned
abbrev pub with_pin : Ledger → ℕ → Ledger
with_pin t s = record t { pins = slice_set t.pins s true }

-- section s is one more root
abbrev pub with_root : Ledger → ℕ → Ledger
with_root t s = record t { roots = record { items = t.roots.items ++ s ∷ [] } }

-- with these slots, and closed
abbrev pub shut : Ledger → Slots → Ledger
shut t slots = record t { slots = slots; closed = true }

-- closed, with the first n slots made anew by a rule, and the counts of those that pass one test and the other
pub record Shut (rule : ℕ → Slot → Slot) (p q : ℕ → Bool) (n : ℕ) (old new : Ledger) (a b : ℕ) : Type 0 where
  pub rest : new ≡ shut old new.slots
  pub turned : Turned rule p q n old.slots new.slots a b
