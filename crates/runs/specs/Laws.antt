-- Laws of runs of calls: what is refused, what the drawn graph is, what a pile tells of its sections, and what a sweep and a fold do.
use Rattle.std.specs.Prelude.{◌≡◌, ℕ, suc, ◌+◌, ◌<◌, ◌≤◌, true, false, ◌||◌, ◌⊎◌, ◌↔◌, List, [], ◌∷◌, ◌++◌, length, Some, None, Ok, Err, Option, ◌≢◌}
use Rattle.std.specs.Option.{option_map}
use Rattle.fault.specs.declared.Fault.{Fault}
use Rattle.fault.specs.Numbers.{kind_number, layer_number}
use Rattle.model.specs.declared.Setting.TheVariants.{Pinned}
use Rattle.model.specs.declared.Target.TheVariants.{Section, Outside}
use Rattle.model.specs.declared.Relocation.{Relocation}
use Rattle.model.specs.declared.Record.{Record}
use Rattle.model.specs.Graph.{Graph, Present, count_of, record_of, byte_of, relocation_of, root_count_of, root_of}
use Rattle.model.specs.Laws.{Valid}
use Rattle.unfolding.specs.Groups.{FoldAble, foldable, present, present_count}
use Rattle.unfolding.specs.Reach.{Reached}
use Rattle.unfolding.specs.Sections.{Alike, Stable}
use Rattle.calls.specs.declared.Slot.TheVariants.{Untouched}
use Rattle.calls.specs.declared.Call.{Call}
use Rattle.calls.specs.declared.Call.TheVariants.{Bind, Pin, Root, Sweep, Fold}
use Rattle.calls.specs.declared.Place.TheVariants.{Absent, Swept as Nowhere}
use Rattle.calls.specs.declared.Answer.TheVariants.{Refused, Dropped, Merged}
use Rattle.runs.specs.Drawn.{bind, pin, root, drawn_by}
use Rattle.runs.specs.State.{State, start, step, answer, refusal, after, place_of, slot_of, closed_fault, no_section, bound_before, full}
use Rattle.runs.specs.Promise.{is_sweep, is_fold, some_call, Placed}

-- what binds, pins and roots do to a graph, by the questions

-- a relocation that was bound: all is kept but the target, and that too unless it was the name
pub record BoundRelocation (e s : ℕ) (old new : Relocation) : Type 0 where
  pub offset : new.offset ≡ old.offset
  pub kind : new.kind ≡ old.kind
  pub displacement : new.displacement ≡ old.displacement
  pub named : old.target ≡ Outside e → new.target ≡ Section s
  pub other : (old.target ≢ Outside e) → new.target ≡ old.target

pub record BindDoes (e s : ℕ) (g : Graph) : Type 0 where
  pub count : count_of (bind e s g) ≡ count_of g
  pub records : (t : ℕ) → record_of (bind e s g) t ≡ record_of g t
  pub bytes : (t i : ℕ) → byte_of (bind e s g) t i ≡ byte_of g t i
  pub relocations :
      (t j : ℕ) (r : Relocation) →
      relocation_of g t j ≡ Some r →
      (r' : Relocation) × (relocation_of (bind e s g) t j ≡ Some r') × BoundRelocation e s r r'
  pub no_more : (t j : ℕ) → relocation_of g t j ≡ None → relocation_of (bind e s g) t j ≡ None
  pub roots : (bind e s g).roots ≡ g.roots

abbrev pub pinned_record : Record → Record
pinned_record r = record r { setting = Pinned }

pub record PinDoes (s : ℕ) (g : Graph) : Type 0 where
  pub count : count_of (pin s g) ≡ count_of g
  pub pinned : record_of (pin s g) s ≡ option_map pinned_record (record_of g s)
  pub records : (t : ℕ) → (t ≢ s) → record_of (pin s g) t ≡ record_of g t
  pub bytes : (t i : ℕ) → byte_of (pin s g) t i ≡ byte_of g t i
  pub relocations : (t j : ℕ) → relocation_of (pin s g) t j ≡ relocation_of g t j
  pub roots : (pin s g).roots ≡ g.roots

pub record RootDoes (s : ℕ) (g : Graph) : Type 0 where
  pub sections : (root s g).sections ≡ g.sections
  pub count : root_count_of (root s g) ≡ suc (root_count_of g)
  pub earlier : (j : ℕ) → j < root_count_of g → root_of (root s g) j ≡ root_of g j
  pub added : root_of (root s g) (root_count_of g) ≡ Some s

pub record Draws : Type 0 where
  pub binds : (e s : ℕ) (g : Graph) → BindDoes e s g
  pub pins : (s : ℕ) (g : Graph) → PinDoes s g
  pub roots : (s : ℕ) (g : Graph) → RootDoes s g

-- the calls of a run that are not refused, in order

abbrev pub unless_refused : Option Fault → Call → List Call → List Call
unless_refused None c cs = c ∷ cs
unless_refused (Some f) c cs = cs

abbrev pub accepted : State → List Call → List Call
accepted st [] = []
accepted st (c ∷ cs) = unless_refused (refusal st c) c (accepted (step st c) cs)

-- the drawn graph of some calls
abbrev pub drawn_all : List Call → Graph → Graph
drawn_all [] g = g
drawn_all (c ∷ cs) g = drawn_all cs (drawn_by c g)

-- the names that they bind
abbrev pub name_in : Call → List ℕ
name_in (Bind e s) = e ∷ []
name_in (Pin s) = []
name_in (Root s) = []
name_in Sweep = []
name_in Fold = []

abbrev pub names_in : List Call → List ℕ
names_in [] = []
names_in (c ∷ cs) = name_in c ++ names_in cs

-- the roots that they add
abbrev pub root_in : Call → List ℕ
root_in (Bind e s) = []
root_in (Pin s) = []
root_in (Root s) = s ∷ []
root_in Sweep = []
root_in Fold = []

abbrev pub roots_in : List Call → List ℕ
roots_in [] = []
roots_in (c ∷ cs) = root_in c ++ roots_in cs

-- one of the names is e
pub data Among (e : ℕ) : List ℕ → Type 0 where
  here : {xs : List ℕ} → Among e (e ∷ xs)
  later : {x : ℕ} {xs : List ℕ} → Among e xs → Among e (x ∷ xs)

-- what a refusal is known by outside: its number, its place, and layer 3
pub record Told (f : Fault) (n p : ℕ) : Type 0 where
  pub number : kind_number f.kind ≡ n
  pub place : f.place ≡ p
  pub layer : layer_number f.layer ≡ 3

-- when each refusal comes, in the order of the checks: 7, then 8, then 9, then 10
pub record Refusals (st : State) : Type 0 where
  pub bind_closed : (e s : ℕ) → st.closed ≡ true → refusal st (Bind e s) ≡ Some closed_fault
  pub bind_missing :
      (e s : ℕ) → st.closed ≡ false → (Present st.drawn s → ⊥) → refusal st (Bind e s) ≡ Some (no_section s)
  pub bind_bound :
      (e s : ℕ) →
      st.closed ≡ false →
      Present st.drawn s →
      Among e st.bound →
      refusal st (Bind e s) ≡ Some (bound_before e)
  pub bind_full :
      (e s : ℕ) →
      st.closed ≡ false →
      Present st.drawn s →
      (Among e st.bound → ⊥) →
      64 ≤ length st.bound →
      refusal st (Bind e s) ≡ Some full
  pub bind_accepted :
      (e s : ℕ) →
      st.closed ≡ false →
      Present st.drawn s →
      (Among e st.bound → ⊥) →
      length st.bound < 64 →
      refusal st (Bind e s) ≡ None
  pub pin_closed : (s : ℕ) → st.closed ≡ true → refusal st (Pin s) ≡ Some closed_fault
  pub pin_missing : (s : ℕ) → st.closed ≡ false → (Present st.drawn s → ⊥) → refusal st (Pin s) ≡ Some (no_section s)
  pub pin_accepted : (s : ℕ) → st.closed ≡ false → Present st.drawn s → refusal st (Pin s) ≡ None
  pub root_closed : (s : ℕ) → st.closed ≡ true → refusal st (Root s) ≡ Some closed_fault
  pub root_missing :
      (s : ℕ) → st.closed ≡ false → (Present st.drawn s → ⊥) → refusal st (Root s) ≡ Some (no_section s)
  pub root_full :
      (s : ℕ) →
      st.closed ≡ false →
      Present st.drawn s →
      (64 ≤ st.added) ⊎ (4096 ≤ root_count_of st.drawn) →
      refusal st (Root s) ≡ Some full
  pub root_accepted :
      (s : ℕ) →
      st.closed ≡ false →
      Present st.drawn s →
      st.added < 64 →
      root_count_of st.drawn < 4096 →
      refusal st (Root s) ≡ None
  -- a sweep and a fold are never refused
  pub sweep_accepted : refusal st Sweep ≡ None
  pub fold_accepted : refusal st Fold ≡ None
  pub told_closed : Told closed_fault 7 0
  pub told_no_section : (s : ℕ) → Told (no_section s) 8 s
  pub told_bound : (e : ℕ) → Told (bound_before e) 9 e
  pub told_full : Told full 10 0
  -- a refused call alters nothing and answers the fault
  pub alters_nothing : (c : Call) (f : Fault) → refusal st c ≡ Some f → step st c ≡ st
  pub answers_fault : (c : Call) (f : Fault) → refusal st c ≡ Some f → answer st c ≡ Refused f

abbrev pub Refuses : Type 0
Refuses = (st : State) → Refusals st

-- the drawn graph, the bound names, the added roots and whether the pile is closed follow from the calls
pub record Follows (g : Graph) (calls : List Call) : Type 0 where
  pub drawn : (after g calls).drawn ≡ drawn_all (accepted (start g) calls) g
  pub bound : (after g calls).bound ≡ names_in (accepted (start g) calls)
  pub added : (after g calls).added ≡ length (roots_in (accepted (start g) calls))
  pub roots : (after g calls).drawn.roots ≡ g.roots ++ roots_in (accepted (start g) calls)
  pub closed : (after g calls).closed ≡ (some_call is_sweep calls || some_call is_fold calls)

abbrev pub RunFollows : Type 0
RunFollows = (g : Graph) (calls : List Call) → Follows g calls

-- what a pile tells of its sections, after any calls
pub record Tells (g : Graph) (st : State) : Type 0 where
  -- the pile's graph is a section graph, and so is the drawn one
  pub valid : Valid st.graph
  pub drawn_valid : Valid st.drawn
  -- with the sections of the graph below
  pub count : count_of st.graph ≡ count_of g
  pub drawn_count : count_of st.drawn ≡ count_of g
  pub presence : (s : ℕ) → present st.drawn s ≡ present g s
  -- a slot for each section that there may be, untouched where there is none
  pub slots : length st.slots ≡ 1024
  pub blank : (s : ℕ) → (Present g s → ⊥) → slot_of st.slots s ≡ Untouched
  -- until a sweep or fold, the pile is its drawn graph, and every present section is at its own number
  pub unchanged : st.closed ≡ false → st.graph ≡ st.drawn
  pub own : st.closed ≡ false → (s : ℕ) → Present g s → Placed st s s
  -- the place question: not below the count, absent below, and present below
  pub beyond : (s : ℕ) → count_of g ≤ s → place_of st s ≡ Err (no_section s)
  pub absent : (s : ℕ) → s < count_of g → (Present g s → ⊥) → place_of st s ≡ Ok Absent
  pub somewhere : (s : ℕ) → Present g s → ((p : ℕ) × Placed st s p) ⊎ (place_of st s ≡ Ok Nowhere)
  -- what is present in the pile is what is at its own number
  pub stands : (s : ℕ) → Present st.graph s ↔ Placed st s s
  -- a section's place is present, not above it, and unfolds there as the section does in the drawn graph
  pub placed : (s p : ℕ) → Placed st s p → Present st.graph p
  pub lower : (s p : ℕ) → Placed st s p → p ≤ s
  pub alike : (s p : ℕ) → Placed st s p → Alike st.graph p st.drawn s

abbrev pub PileTells : Type 0
PileTells = (g : Graph) → Valid g → (calls : List Call) → Tells g (after g calls)

-- what a sweep does and answers
pub record SweepDoes (st : State) : Type 0 where
  pub drawn : (step st Sweep).drawn ≡ st.drawn
  pub closes : (step st Sweep).closed ≡ true
  -- exactly what no chain of relocations from a root reaches goes
  pub stays : (s : ℕ) → Present (step st Sweep).graph s ↔ (Present st.graph s × Reached st.graph s)
  -- what is reached keeps its place, and what was at a section that goes has none
  pub keeps : (s p : ℕ) → Placed st s p → Reached st.graph p → Placed (step st Sweep) s p
  pub drops : (s p : ℕ) → Placed st s p → (Reached st.graph p → ⊥) → place_of (step st Sweep) s ≡ Ok Nowhere
  pub gone : (s : ℕ) → place_of st s ≡ Ok Nowhere → place_of (step st Sweep) s ≡ Ok Nowhere
  pub present : ℕ
  pub dropped : ℕ
  pub answers : answer st Sweep ≡ Dropped present dropped
  pub after_it : present ≡ present_count (step st Sweep).graph
  pub before_it : present_count st.graph ≡ present + dropped

-- what a fold does and answers
pub record FoldDoes (st : State) : Type 0 where
  pub drawn : (step st Fold).drawn ≡ st.drawn
  pub closes : (step st Fold).closed ≡ true
  -- what was at p is now at q, where q is the lowest of p's group
  pub lowest :
      (s p : ℕ) →
      Placed st s p →
      FoldAble st.graph p →
      (q : ℕ) ×
      Placed (step st Fold) s q ×
      FoldAble st.graph q ×
      Alike st.graph q st.graph p ×
      ((t : ℕ) → FoldAble st.graph t → Alike st.graph t st.graph p → q ≤ t)
  -- pinned sections stay
  pub pinned : (s p : ℕ) → Placed st s p → foldable st.graph p ≡ false → Placed (step st Fold) s p
  pub gone : (s : ℕ) → place_of st s ≡ Ok Nowhere → place_of (step st Fold) s ≡ Ok Nowhere
  pub present : ℕ
  pub merged : ℕ
  pub rounds : ℕ
  pub answers : answer st Fold ≡ Merged present merged rounds
  pub after_it : present ≡ present_count (step st Fold).graph
  pub before_it : present_count st.graph ≡ present + merged
  -- the least depth that divides the present foldable sections, before the call, into the same groups as the next depth
  pub stable : Stable st.graph rounds
  pub least : (k : ℕ) → Stable st.graph k → rounds ≤ k

abbrev pub ClosesRight : Type 0
ClosesRight = (g : Graph) → Valid g → (calls : List Call) → SweepDoes (after g calls) × FoldDoes (after g calls)
