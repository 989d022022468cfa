-- What a pile answers, from the inner table and the answers of the graph below.
use Rattle.std.specs.Prelude.{ℕ, ◌+◌, ◌-◌, Bool, cond, not, ◌||◌, Some, None, Ok, Err, Option, Result, find, ◌==◌, nat_le, nat_lt, slice_get}
use Rattle.std.specs.Option.{option_map}
use Rattle.arrayvec.specs.ArrayVec.{array_vec_len}
use Rattle.fault.specs.declared.Fault.{Fault}
use Rattle.model.specs.declared.Target.{Target}
use Rattle.model.specs.declared.Relocation.{Relocation}
use Rattle.model.specs.declared.Record.{Record}
use Rattle.unfolding.specs.Groups.{aimed_at, moved}
use Rattle.unfolding.specs.Reach.{has}
use Rattle.calls.specs.declared.Place.{Place}
use Rattle.calls.specs.declared.Place.TheVariants.{Absent}
use Rattle.runs.specs.Laws.{pinned_record}
use Rattle.runs.specs.State.{slot_of, untouched, found_at, check, closed_fault, no_section, bound_before, full}
use Rattle.runs.specs.Seen.{found_number}
use Rattle.ledger.specs.declared.Ledger.{Ledger}
use Rattle.ledger.specs.Told.{bound_by, bound_names, pinned}

-- section s is untouched
abbrev pub stands : Ledger → ℕ → Bool
stands t s = untouched (slot_of t.slots.list s)

abbrev pub seen_record : Ledger → ℕ → Option Record → Option Record
seen_record t s r = cond (stands t s) (cond (pinned t s) (option_map pinned_record r) r) None

abbrev pub seen_byte : Ledger → ℕ → Option ℕ → Option ℕ
seen_byte t s x = cond (stands t s) x None

-- where a target goes: binds first, then slots
abbrev pub seen_target : Ledger → Target → Target
seen_target t x = moved (found_number t.slots.list) (bound_by t x)

abbrev pub seen_relocation : Ledger → ℕ → Option Relocation → Option Relocation
seen_relocation t s r = cond (stands t s) (option_map (aimed_at (seen_target t)) r) None

-- added root j
abbrev pub added_root : Ledger → ℕ → Option ℕ
added_root t j = option_map (found_number t.slots.list) (slice_get t.roots.items j)

-- root j, where the graph below has n roots and answers x
abbrev pub seen_root : Ledger → ℕ → ℕ → Option ℕ → Option ℕ
seen_root t n j None = cond (nat_le n j) (added_root t (j - n)) None
seen_root t n j (Some s) = Some (found_number t.slots.list s)

-- the place of section s, where the graph below has n sections and `there` says whether it is present there
abbrev pub placed : Ledger → ℕ → Bool → ℕ → Result Place Fault
placed t n there s =
    cond (nat_lt s n) (Ok (cond there (found_at t.slots.list s) Absent)) (Err (no_section s))

-- the section that name e stands for, if it was bound
abbrev pub section_bound : Ledger → ℕ → Option ℕ
section_bound t e = option_map (λ b. b.section) (find (λ b. b.name == e) t.binds.items)

-- why a bind of name e to section s is refused, if it is
abbrev pub bind_refused : Ledger → Bool → ℕ → ℕ → Option Fault
bind_refused t there e s =
    check t.closed closed_fault
    (check (not there) (no_section s)
    (check (has (bound_names t) e) (bound_before e) (check (nat_le 64 (array_vec_len t.binds)) full None)))

-- a pin of section s
abbrev pub pin_refused : Ledger → Bool → ℕ → Option Fault
pin_refused t there s = check t.closed closed_fault (check (not there) (no_section s) None)

-- and a root, where the graph below has n roots
abbrev pub root_refused : Ledger → Bool → ℕ → ℕ → Option Fault
root_refused t there n s =
    check t.closed closed_fault
    (check (not there) (no_section s) (check (nat_le 64 (array_vec_len t.roots) || nat_le 4096 (n + array_vec_len t.roots)) full None))
