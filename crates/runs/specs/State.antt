-- The state of a pile, which calls it refuses, and what the others do to it: all from the graph below and the calls.
use Rattle.std.specs.Prelude.{ℕ, zero, suc, Bool, true, false, cond, not, ◌&&◌, ◌||◌, List, [], ◌∷◌, ◌++◌, length, drop, replicate, Some, None, Ok, Err, Option, Result, ◌==◌, nat_le, nat_lt, slice_index_or}
use Rattle.fault.specs.declared.Kind.{Kind}
use Rattle.fault.specs.declared.Kind.TheVariants.{Closed, NoSection, Bound, Full}
use Rattle.fault.specs.declared.Layer.TheVariants.{Pile}
use Rattle.fault.specs.declared.Fault.{Fault}
use Rattle.model.specs.Graph.{Graph, count_of, root_count_of}
use Rattle.steps.specs.Below.{table}
use Rattle.unfolding.specs.Groups.{present, present_count}
use Rattle.unfolding.specs.Reach.{has, reached, swept, dropped}
use Rattle.unfolding.specs.Sections.{rep, rounds, folded, merged}
use Rattle.calls.specs.declared.Slot.{Slot}
use Rattle.calls.specs.declared.Slot.TheVariants.{Untouched, Folded, Swept}
use Rattle.calls.specs.declared.Call.{Call}
use Rattle.calls.specs.declared.Call.TheVariants.{Bind, Pin, Root, Sweep, Fold}
use Rattle.calls.specs.declared.Place.{Place}
use Rattle.calls.specs.declared.Place.TheVariants.{At, Absent, Swept as Nowhere}
use Rattle.calls.specs.declared.Answer.{Answer}
use Rattle.calls.specs.declared.Answer.TheVariants.{Accepted, Refused, Dropped, Merged}
use Rattle.runs.specs.Drawn.{bind, pin, root}

pub record State : Type 0 where
  -- the drawn graph: the graph below with what was bound, pinned and rooted
  pub drawn : Graph
  -- the section graph that the pile is: the drawn graph as sweeps and folds left it
  pub graph : Graph
  -- what became of each section; 1,024 long, and untouched where nothing happened
  pub slots : List Slot
  -- the outside names that were bound, in order
  pub bound : List ℕ
  -- how many roots were added
  pub added : ℕ
  -- a sweep or fold was done
  pub closed : Bool

-- a new pile over the graph
abbrev pub start : Graph → State
start g =
    record { drawn = g; graph = g; slots = replicate 1024 Untouched; bound = []; added = 0; closed = false }

-- the refusals

abbrev pub fault_at : Kind → ℕ → Fault
fault_at kind place = record { kind = kind; place = place; layer = Pile }

-- 7, the pile is closed
abbrev pub closed_fault : Fault
closed_fault = fault_at Closed 0

-- 8, section s is not below the count, or absent
abbrev pub no_section : ℕ → Fault
no_section s = fault_at NoSection s

-- 9, outside name e was bound before
abbrev pub bound_before : ℕ → Fault
bound_before e = fault_at Bound e

-- 10, there is no room
abbrev pub full : Fault
full = fault_at Full 0

-- refuses if the test holds, and else as the later checks have it
abbrev pub check : Bool → Fault → Option Fault → Option Fault
check b f later = cond b (Some f) later

abbrev pub missing : State → ℕ → Bool
missing st s = not (present st.drawn s)

-- 64 binds were made
abbrev pub binds_full : State → Bool
binds_full st = nat_le 64 (length st.bound)

-- 64 roots were added, or there are 4,096 in all
abbrev pub roots_full : State → Bool
roots_full st = nat_le 64 st.added || nat_le 4096 (root_count_of st.drawn)

-- why a call is refused, if it is
abbrev pub refusal : State → Call → Option Fault
refusal st (Bind e s) =
    check st.closed closed_fault
    (check (missing st s) (no_section s) (check (has st.bound e) (bound_before e) (check (binds_full st) full None)))
refusal st (Pin s) = check st.closed closed_fault (check (missing st s) (no_section s) None)
refusal st (Root s) =
    check st.closed closed_fault (check (missing st s) (no_section s) (check (roots_full st) full None))
refusal st Sweep = None
refusal st Fold = None

-- the slots

-- the slot of section s
abbrev pub slot_of : List Slot → ℕ → Slot
slot_of slots s = slice_index_or slots s Untouched

-- nothing happened to the section
abbrev pub untouched : Slot → Bool
untouched Untouched = true
untouched (Folded t) = false
untouched Swept = false

-- the slots of the first n sections made anew, each by its number and what it was
abbrev pub slots_by : (ℕ → Slot → Slot) → ℕ → List Slot → List Slot
slots_by f n slots = table (λ s. f s (slot_of slots s)) n ++ drop n slots

-- section s is swept if it is present and no root reaches it
abbrev pub swept_slot : Graph → ℕ → Slot → Slot
swept_slot g s old = cond (present g s && not (reached g s)) Swept old

-- section s is folded if it is present and another one represents its group
abbrev pub folded_slot : Graph → ℕ → Slot → Slot
folded_slot g s old = cond (present g s && not (rep g s == s)) (Folded (rep g s)) old

-- the calls

-- what a call that is not refused does
abbrev pub moved : State → Call → State
moved st (Bind e s) =
    record st { drawn = bind e s st.drawn; graph = bind e s st.graph; bound = st.bound ++ e ∷ [] }
moved st (Pin s) = record st { drawn = pin s st.drawn; graph = pin s st.graph }
moved st (Root s) = record st { drawn = root s st.drawn; graph = root s st.graph; added = suc st.added }
moved st Sweep =
    record st {
      graph = swept st.graph;
      slots = slots_by (swept_slot st.graph) (count_of st.graph) st.slots;
      closed = true;
    }
moved st Fold =
    record st {
      graph = folded st.graph;
      slots = slots_by (folded_slot st.graph) (count_of st.graph) st.slots;
      closed = true;
    }

-- a refused call alters nothing
abbrev pub unless : Option Fault → State → State → State
unless None st next = next
unless (Some f) st next = st

-- the state after a call
abbrev pub step : State → Call → State
step st call = unless (refusal st call) st (moved st call)

-- what a call that is not refused answers; the counts of sections are those after the call
abbrev pub answered : State → Call → Answer
answered st (Bind e s) = Accepted
answered st (Pin s) = Accepted
answered st (Root s) = Accepted
answered st Sweep = Dropped (present_count (swept st.graph)) (dropped st.graph)
answered st Fold = Merged (present_count (folded st.graph)) (merged st.graph) (rounds st.graph)

abbrev pub refused_or : Option Fault → Answer → Answer
refused_or None a = a
refused_or (Some f) a = Refused f

-- what a call answers
abbrev pub answer : State → Call → Answer
answer st call = refused_or (refusal st call) (answered st call)

-- the state after a list of calls
abbrev pub run : State → List Call → State
run st [] = st
run st (c ∷ cs) = run (step st c) cs

-- and what they answer
abbrev pub answers : State → List Call → List Answer
answers st [] = []
answers st (c ∷ cs) = answer st c ∷ answers (step st c) cs

-- the state of a new pile over g after a list of calls
abbrev pub after : Graph → List Call → State
after g calls = run (start g) calls

-- the places

-- where a section with this slot is found, given where others are
abbrev pub ended : Slot → ℕ → (ℕ → Place) → Place
ended Untouched s others = At s
ended (Folded t) s others = others t
ended Swept s others = Nowhere

-- the slots followed, at most k of them
abbrev pub followed : ℕ → List Slot → ℕ → Place
followed zero slots s = Nowhere
followed (suc k) slots s = ended (slot_of slots s) s (followed k slots)

-- an untouched section is found at its own number, a folded one where the other is, a swept one nowhere; a section is folded into a
-- lower one, so that s + 1 slots are enough
abbrev pub found_at : List Slot → ℕ → Place
found_at slots s = followed (suc s) slots s

-- the place of section s of the graph below
abbrev pub place_of : State → ℕ → Result Place Fault
place_of st s =
    cond (nat_lt s (count_of st.drawn))
    (Ok (cond (present st.drawn s) (found_at st.slots s) Absent))
    (Err (no_section s))
