-- What is answered of a file and a list of calls, and what stands in the two buffers then.
use Rattle.std.specs.Prelude.{◌≡◌, ℕ, Bool, cond, List, [], ◌∷◌, ◌++◌, length, Some, None, Option, nat_le, ◌==◌, slice_index}
use Rattle.std.specs.Option.{option_or}
use Rattle.fault.specs.declared.Fault.{Fault}
use Rattle.model.specs.Graph.{Graph}
use Rattle.unfolding.specs.Groups.{present_count}
use Rattle.unfolding.specs.Reach.{dropped}
use Rattle.unfolding.specs.Sections.{rounds, merged}
use Rattle.row_writer.specs.Writing.{small, over}
use Rattle.layout.specs.Layout.{text_of}
use Rattle.layout.specs.Reading.{fault_of, graph_of}
use Rattle.rules.specs.Verdict.{verdict}
use Rattle.object.specs.Meaning.{meaning}
use Rattle.calls.specs.declared.Call.{Call}
use Rattle.calls.specs.declared.Call.TheVariants.{Sweep, Fold}
use Rattle.calls.specs.declared.Answer.{Answer}
use Rattle.calls.specs.declared.Answer.TheVariants.{Accepted, Dropped, Merged, Refused as NotDone}
use Rattle.runs.specs.State.{State, start, step, after, answers}
use Rattle.foldmap.specs.Map.{map_text}
use Rattle.buffers.specs.declared.Done.{Done}
use Rattle.buffers.specs.declared.Reply.{Reply}
use Rattle.buffers.specs.declared.Reply.TheVariants.{Written, Short, Refused}

-- the file

-- an object begins with this byte, and no table does
abbrev pub is_object : List ℕ → Bool
is_object b = slice_index b 0 == 0x7f

-- why a file is refused, if it is
unfoldable pub refusal_of_file : List ℕ → Option Fault
refusal_of_file b = cond (is_object b) (verdict b) (fault_of b)

-- the section graph of a file that is accepted
unfoldable pub graph_of_file : List ℕ → Graph
graph_of_file b = cond (is_object b) (meaning b) (graph_of b)

-- the calls

-- the refusal that an answer is, if it is one
abbrev pub refusal_in : Answer → Option Fault
refusal_in Accepted = None
refusal_in (NotDone f) = Some f
refusal_in (Dropped p d) = None
refusal_in (Merged p m r) = None

abbrev pub first_refusal : List Answer → Option Fault
first_refusal [] = None
first_refusal (a ∷ rest) = option_or (refusal_in a) (first_refusal rest)

-- the first refusal among the answers to calls
abbrev pub refusal_among : State → List Call → Option Fault
refusal_among st calls = first_refusal (answers st calls)

-- the state after a sweep and a fold
unfoldable pub finished : State → State
finished st = step (step st Sweep) Fold

-- the state of a new pile over g after calls, a sweep and a fold
abbrev pub ended : Graph → List Call → State
ended g calls = finished (after g calls)

-- so it is that of one list of calls
abbrev pub EndsAfter : Type 0
EndsAfter = (g : Graph) (calls : List Call) → ended g calls ≡ after g (calls ++ Sweep ∷ Fold ∷ [])

-- the table then, and the fold map

unfoldable pub table_after : Graph → List Call → List ℕ
table_after g calls = text_of (ended g calls).graph

unfoldable pub map_after : Graph → List Call → List ℕ
map_after g calls = map_text (ended g calls)

-- what came of it

-- the lengths and the counts, where a sweep and a fold follow on this state
unfoldable pub done_from : State → Done
done_from st =
    record {
      table = length (text_of (finished st).graph);
      map = length (map_text (finished st));
      present = present_count (finished st).graph;
      dropped = dropped st.graph;
      merged = merged (step st Sweep).graph;
      rounds = rounds (step st Sweep).graph;
    }

-- where a buffer is too short for its text, the table's first, nothing is written
abbrev pub fitting : Done → ℕ → ℕ → Reply
fitting d table_room map_room =
    cond
    (nat_le d.table table_room)
    (cond (nat_le d.map map_room) (Written d) (Short (small d.map) d))
    (Short (small d.table) d)

abbrev pub refused_or : Option Fault → Reply → Reply
refused_or None r = r
refused_or (Some f) r = Refused f

-- what is answered of calls on a new pile over g, with so much room in the two buffers
unfoldable pub reply_over : Graph → List Call → ℕ → ℕ → Reply
reply_over g calls table_room map_room =
    refused_or (refusal_among (start g) calls) (fitting (done_from (after g calls)) table_room map_room)

-- and of calls on a new pile over a file
unfoldable pub reply_of : List ℕ → List Call → ℕ → ℕ → Reply
reply_of file calls table_room map_room =
    refused_or (refusal_of_file file) (reply_over (graph_of_file file) calls table_room map_room)

-- what a buffer holds then: the text over its front if all is written, and else what it held
unfoldable pub put_if : Reply → List ℕ → List ℕ → List ℕ
put_if (Written d) text b = over text b
put_if (Short f d) text b = b
put_if (Refused f) text b = b
