-- The worked examples, all in one list: calls on a new pile, what they answer, and what the pile tells after them. (The examples of
-- `unfolding` are further graphs, for the definitions of that crate alone.)
use Rattle.std.specs.Prelude.{◌≡◌, ℕ, suc, List, [], ◌∷◌, ◌++◌, replicate, ℤ, pos, negsuc, Some, None, Ok, Err, Option, Result}
use Rattle.std.specs.List.{AllByRecursion}
use Rattle.fault.specs.declared.Fault.{Fault}
use Rattle.model.specs.Graph.{Body, Graph, empty, count_of}
use Rattle.steps.specs.Below.{table}
use Rattle.unfolding.specs.Groups.{present_count}
use Rattle.model.specs.declared.Setting.TheVariants.{Foldable}
use Rattle.model.specs.declared.Target.{Target}
use Rattle.model.specs.declared.Target.TheVariants.{Section, Outside}
use Rattle.model.specs.declared.Relocation.{Relocation}
use Rattle.calls.specs.declared.Call.{Call}
use Rattle.calls.specs.declared.Call.TheVariants.{Bind, Pin, Root, Sweep, Fold}
use Rattle.calls.specs.declared.Place.{Place}
use Rattle.calls.specs.declared.Place.TheVariants.{At, Absent, Swept}
use Rattle.calls.specs.declared.Answer.{Answer}
use Rattle.calls.specs.declared.Answer.TheVariants.{Accepted, Refused, Dropped, Merged}
use Rattle.runs.specs.State.{start, after, answers, place_of, closed_fault, no_section, bound_before, full}

pub record Outcome : Type 0 where
  -- what the calls answer
  pub answers : List Answer
  -- the place of each section, and what is said of the first number past them
  pub places : List (Result Place Fault)
  -- the pile's roots, and how many of its sections are present
  pub roots : List ℕ
  pub present : ℕ

-- what the calls come to on a new pile
abbrev pub outcome_of : Graph → List Call → Outcome
outcome_of g cs =
    record {
      answers = answers (start g) cs;
      places = table (place_of (after g cs)) (suc (count_of g));
      roots = (after g cs).graph.roots;
      present = present_count (after g cs).graph;
    }

pub record Example : Type 0 where
  pub below : Graph
  pub calls : List Call
  pub outcome : Outcome

-- the definitions give what the example has
abbrev pub Gives : Example → Type 0
Gives e = outcome_of e.below e.calls ≡ e.outcome

abbrev pub at : ℕ → Result Place Fault
at p = Ok (At p)

abbrev pub swept_away : Result Place Fault
swept_away = Ok Swept

abbrev pub past : ℕ → Result Place Fault
past n = Err (no_section n)

-- a foldable section of one byte, ones that differ in the byte or in the alignment, and a relocation to a section or an outside name

abbrev pub body : ℕ → ℕ → List Relocation → Option Body
body alignment byte rs =
    Some (record { flags = 6; alignment = alignment; bytes = byte ∷ []; setting = Foldable; relocations = rs })

abbrev pub of_byte : ℕ → List Relocation → Option Body
of_byte byte rs = body 1 byte rs

abbrev pub plain : List Relocation → Option Body
plain rs = of_byte 195 rs

abbrev pub other : Option Body
other = of_byte 144 []

abbrev pub aligned : ℕ → Option Body
aligned alignment = body alignment 195 []

abbrev pub aiming : Target → ℤ → List Relocation
aiming target d = record { offset = 0; kind = 4; target = target; displacement = d } ∷ []

abbrev pub calls : ℕ → List Relocation
calls t = aiming (Section t) (pos 0)

abbrev pub names : ℕ → ℤ → List Relocation
names e d = aiming (Outside e) d

-- a graph without roots
abbrev pub unrooted : List (Option Body) → Graph
unrooted sections = record { sections = sections; roots = [] }

-- only 1 and 2 present, alike; root 2
abbrev pub pair : Graph
pair = record { sections = None ∷ plain [] ∷ plain [] ∷ []; roots = 2 ∷ [] }

-- one section
abbrev pub single : Graph
single = unrooted (plain [] ∷ [])

abbrev pub examples : List Example
examples =
    -- the empty graph
    record {
      below = empty;
      calls = Fold ∷ [];
      outcome = record { answers = Merged 0 0 0 ∷ []; places = past 0 ∷ []; roots = []; present = 0 };
    } ∷
    -- two alike share
    record {
      below = unrooted (plain [] ∷ plain [] ∷ []);
      calls = Fold ∷ [];
      outcome =
          record { answers = Merged 1 1 0 ∷ []; places = at 0 ∷ at 0 ∷ past 2 ∷ []; roots = []; present = 1 };
    } ∷
    -- also with another between them
    record {
      below = unrooted (plain [] ∷ other ∷ plain [] ∷ []);
      calls = Fold ∷ [];
      outcome =
          record {
            answers = Merged 2 1 1 ∷ [];
            places = at 0 ∷ at 1 ∷ at 0 ∷ past 3 ∷ [];
            roots = [];
            present = 2;
          };
    } ∷
    -- and are both swept if no root reaches the one that stays
    record {
      below = unrooted (plain [] ∷ plain [] ∷ []);
      calls = Fold ∷ Sweep ∷ [];
      outcome =
          record {
            answers = Merged 1 1 0 ∷ Dropped 0 1 ∷ [];
            places = swept_away ∷ swept_away ∷ past 2 ∷ [];
            roots = [];
            present = 0;
          };
    } ∷
    -- two alike that call themselves share
    record {
      below = unrooted (plain (calls 0) ∷ plain (calls 1) ∷ []);
      calls = Fold ∷ [];
      outcome =
          record { answers = Merged 1 1 0 ∷ []; places = at 0 ∷ at 0 ∷ past 2 ∷ []; roots = []; present = 1 };
    } ∷
    -- a calls b, b calls a, c calls itself: all three share
    record {
      below = unrooted (plain (calls 1) ∷ plain (calls 0) ∷ plain (calls 2) ∷ []);
      calls = Fold ∷ [];
      outcome =
          record {
            answers = Merged 1 2 0 ∷ [];
            places = at 0 ∷ at 0 ∷ at 0 ∷ past 3 ∷ [];
            roots = [];
            present = 1;
          };
    } ∷
    -- a calls b, c calls d, and b and d differ in a byte: none share, which depth 2 is the first to tell
    record {
      below = unrooted (plain (calls 1) ∷ plain [] ∷ plain (calls 3) ∷ other ∷ []);
      calls = Fold ∷ [];
      outcome =
          record {
            answers = Merged 4 0 2 ∷ [];
            places = at 0 ∷ at 1 ∷ at 2 ∷ at 3 ∷ past 4 ∷ [];
            roots = [];
            present = 4;
          };
    } ∷
    -- two that differ in their alignment stay apart
    record {
      below = unrooted (aligned 4 ∷ aligned 16 ∷ []);
      calls = Fold ∷ [];
      outcome =
          record { answers = Merged 2 0 1 ∷ []; places = at 0 ∷ at 1 ∷ past 2 ∷ []; roots = []; present = 2 };
    } ∷
    -- the sweep leaves 2, so the fold finds nothing
    record {
      below = pair;
      calls = Sweep ∷ Fold ∷ [];
      outcome =
          record {
            answers = Dropped 1 1 ∷ Merged 1 0 0 ∷ [];
            places = Ok Absent ∷ swept_away ∷ at 2 ∷ past 3 ∷ [];
            roots = 2 ∷ [];
            present = 1;
          };
    } ∷
    -- the fold leaves 1, which is the root then, so the sweep finds nothing
    record {
      below = pair;
      calls = Fold ∷ Sweep ∷ [];
      outcome =
          record {
            answers = Merged 1 1 0 ∷ Dropped 1 0 ∷ [];
            places = Ok Absent ∷ at 1 ∷ at 1 ∷ past 3 ∷ [];
            roots = 1 ∷ [];
            present = 1;
          };
    } ∷
    -- neither a sweep and fold again nor any other call changes it
    record {
      below = pair;
      calls = Fold ∷ Sweep ∷ Fold ∷ Sweep ∷ Pin 1 ∷ [];
      outcome =
          record {
            answers = Merged 1 1 0 ∷ Dropped 1 0 ∷ Merged 1 0 0 ∷ Dropped 1 0 ∷ Refused closed_fault ∷ [];
            places = Ok Absent ∷ at 1 ∷ at 1 ∷ past 3 ∷ [];
            roots = 1 ∷ [];
            present = 1;
          };
    } ∷
    -- what a root reaches along relocations stays
    record {
      below = record { sections = plain (calls 1) ∷ plain [] ∷ plain [] ∷ []; roots = 0 ∷ [] };
      calls = Sweep ∷ [];
      outcome =
          record {
            answers = Dropped 2 1 ∷ [];
            places = at 0 ∷ at 1 ∷ swept_away ∷ past 3 ∷ [];
            roots = 0 ∷ [];
            present = 2;
          };
    } ∷
    -- 0 names what 1 calls: apart, unless the name is bound to it
    record {
      below = unrooted (plain (names 7 (pos 0)) ∷ plain (calls 2) ∷ plain [] ∷ []);
      calls = Fold ∷ [];
      outcome =
          record {
            answers = Merged 3 0 1 ∷ [];
            places = at 0 ∷ at 1 ∷ at 2 ∷ past 3 ∷ [];
            roots = [];
            present = 3;
          };
    } ∷
    record {
      below = unrooted (plain (names 7 (pos 0)) ∷ plain (calls 2) ∷ plain [] ∷ []);
      calls = Bind 7 2 ∷ Fold ∷ [];
      outcome =
          record {
            answers = Accepted ∷ Merged 2 1 1 ∷ [];
            places = at 0 ∷ at 0 ∷ at 2 ∷ past 3 ∷ [];
            roots = [];
            present = 2;
          };
    } ∷
    -- bound to a section that is not like it, they stay apart
    record {
      below = unrooted (plain (names 7 (pos 0)) ∷ plain (calls 2) ∷ plain [] ∷ []);
      calls = Bind 7 1 ∷ Fold ∷ [];
      outcome =
          record {
            answers = Accepted ∷ Merged 3 0 2 ∷ [];
            places = at 0 ∷ at 1 ∷ at 2 ∷ past 3 ∷ [];
            roots = [];
            present = 3;
          };
    } ∷
    -- the displacement is kept, and keeps them apart
    record {
      below = unrooted (plain (names 7 (negsuc 3)) ∷ plain (calls 2) ∷ plain [] ∷ []);
      calls = Bind 7 2 ∷ Fold ∷ [];
      outcome =
          record {
            answers = Accepted ∷ Merged 3 0 1 ∷ [];
            places = at 0 ∷ at 1 ∷ at 2 ∷ past 3 ∷ [];
            roots = [];
            present = 3;
          };
    } ∷
    -- a pin keeps two alike apart
    record {
      below = unrooted (plain [] ∷ plain [] ∷ []);
      calls = Pin 1 ∷ Fold ∷ [];
      outcome =
          record { answers = Accepted ∷ Merged 2 0 0 ∷ []; places = at 0 ∷ at 1 ∷ past 2 ∷ []; roots = []; present = 2 };
    } ∷
    -- and leaves the others to share
    record {
      below = unrooted (plain [] ∷ plain [] ∷ plain [] ∷ []);
      calls = Pin 0 ∷ Fold ∷ [];
      outcome =
          record {
            answers = Accepted ∷ Merged 2 1 0 ∷ [];
            places = at 0 ∷ at 1 ∷ at 1 ∷ past 3 ∷ [];
            roots = [];
            present = 2;
          };
    } ∷
    -- an added root is the last, and is kept by the sweep
    record {
      below = pair;
      calls = Root 1 ∷ Sweep ∷ [];
      outcome =
          record {
            answers = Accepted ∷ Dropped 2 0 ∷ [];
            places = Ok Absent ∷ at 1 ∷ at 2 ∷ past 3 ∷ [];
            roots = 2 ∷ 1 ∷ [];
            present = 2;
          };
    } ∷
    -- the refusals in their order: absent, past the last, accepted, absent before bound, bound; twice pinned; closed before all others
    record {
      below = pair;
      calls =
          Bind 5 0 ∷ Bind 5 9 ∷ Bind 5 1 ∷ Bind 5 0 ∷ Bind 5 2 ∷ Pin 1 ∷ Pin 1 ∷ Pin 3 ∷ Root 1 ∷ Root 0 ∷ Sweep ∷ Bind 5 0 ∷ Pin 9 ∷ Root 0 ∷ [];
      outcome =
          record {
            answers =
                Refused (no_section 0) ∷
                Refused (no_section 9) ∷
                Accepted ∷
                Refused (no_section 0) ∷
                Refused (bound_before 5) ∷
                Accepted ∷
                Accepted ∷
                Refused (no_section 3) ∷
                Accepted ∷
                Refused (no_section 0) ∷
                Dropped 2 0 ∷
                Refused closed_fault ∷
                Refused closed_fault ∷
                Refused closed_fault ∷
                [];
            places = Ok Absent ∷ at 1 ∷ at 2 ∷ past 3 ∷ [];
            roots = 2 ∷ 1 ∷ [];
            present = 2;
          };
    } ∷
    -- the 64th bind is accepted and the 65th is not
    record {
      below = single;
      calls = table (λ e. Bind e 0) 65;
      outcome =
          record {
            answers = replicate 64 Accepted ++ Refused full ∷ [];
            places = at 0 ∷ past 1 ∷ [];
            roots = [];
            present = 1;
          };
    } ∷
    -- so it is with added roots
    record {
      below = single;
      calls = replicate 65 (Root 0);
      outcome =
          record {
            answers = replicate 64 Accepted ++ Refused full ∷ [];
            places = at 0 ∷ past 1 ∷ [];
            roots = replicate 64 0;
            present = 1;
          };
    } ∷
    []

-- the definitions give every example
abbrev pub ExamplesHold : Type 0
ExamplesHold = AllByRecursion Gives examples
