-- The state of a pile, from the graph below and the inner table.
use Rattle.std.specs.Prelude.{◌≡◌, ℕ, Bool, false, cond, List, [], ◌∷◌, ◌++◌, map, Option, slice_index_or}
use Rattle.std.specs.Option.{option_map}
use Rattle.arrayvec.specs.ArrayVec.{array_vec_len}
use Rattle.model.specs.declared.Target.{Target}
use Rattle.model.specs.Graph.{Body, Graph}
use Rattle.unfolding.specs.Groups.{aimed, rebuilt}
use Rattle.calls.specs.declared.Call.{Call}
use Rattle.runs.specs.Drawn.{bound_target, as_pinned}
use Rattle.runs.specs.State.{State, after}
use Rattle.runs.specs.Seen.{seen_through}
use Rattle.runs.specs.Promise.{Promise}
use Rattle.ledger.specs.declared.Bind.{Bind}
use Rattle.ledger.specs.declared.Ledger.{Ledger}
use Rattle.ledger.specs.Edits.{Bounds}

-- a target after these binds, one after the other
abbrev pub bound_by_all : List Bind → Target → Target
bound_by_all [] x = x
bound_by_all (b ∷ bs) x = bound_by_all bs (bound_target b.name b.section x)

abbrev pub bound_by : Ledger → Target → Target
bound_by t x = bound_by_all t.binds.items x

-- the names that were bound, in order
abbrev pub bound_names : Ledger → List ℕ
bound_names t = map (λ b. b.name) t.binds.items

-- section s was pinned by a call
abbrev pub pinned : Ledger → ℕ → Bool
pinned t s = slice_index_or t.pins s false

-- what section s of the graph below is after pins and binds
abbrev pub drawn_section : Ledger → ℕ → Option Body → Option Body
drawn_section t s b = option_map (aimed (bound_by t)) (cond (pinned t s) (option_map as_pinned b) b)

-- the drawn graph: the graph below with what was pinned, bound and rooted
unfoldable pub drawn_from : Graph → Ledger → Graph
drawn_from g t =
    record { sections = rebuilt (drawn_section t) g; roots = g.roots ++ t.roots.items }

-- the state: the pile's graph is the drawn graph seen through the slots
unfoldable pub told : Graph → Ledger → State
told g t =
    record {
      drawn = drawn_from g t;
      graph = seen_through t.slots.list (drawn_from g t);
      slots = t.slots.list;
      bound = bound_names t;
      added = array_vec_len t.roots;
      closed = t.closed;
    }

-- some calls on a new pile over g led to this inner table
pub record Reachable (g : Graph) (t : Ledger) : Type 0 where
  pub calls : List Call
  pub led : told g t ≡ after g calls
  pub bounds : Bounds t

-- the state is the one after the calls, of which all is promised
pub record Kept (g : Graph) (calls : List Call) (st : State) : Type 0 where
  pub state : st ≡ after g calls
  pub promise : Promise g calls
