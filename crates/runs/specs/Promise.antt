-- What is promised of every list of calls on a new pile over any section graph.
use Rattle.std.specs.Prelude.{◌≡◌, ℕ, ◌≤◌, Bool, true, false, ◌||◌, ◌↔◌, List, [], ◌∷◌, ◌++◌, Some, Ok, ◌≢◌}
use Rattle.model.specs.Graph.{Graph, root_count_of, root_of}
use Rattle.model.specs.Laws.{Valid}
use Rattle.unfolding.specs.Groups.{FoldAble, present_count}
use Rattle.unfolding.specs.Sections.{Alike}
use Rattle.least.specs.Theorems.{AlikeRoots}
use Rattle.calls.specs.declared.Call.{Call}
use Rattle.calls.specs.declared.Call.TheVariants.{Bind, Pin, Root, Sweep, Fold}
use Rattle.calls.specs.declared.Place.TheVariants.{At}
use Rattle.runs.specs.State.{State, after, place_of}

abbrev pub is_sweep : Call → Bool
is_sweep (Bind e s) = false
is_sweep (Pin s) = false
is_sweep (Root s) = false
is_sweep Sweep = true
is_sweep Fold = false

abbrev pub is_fold : Call → Bool
is_fold (Bind e s) = false
is_fold (Pin s) = false
is_fold (Root s) = false
is_fold Sweep = false
is_fold Fold = true

-- one of the calls passes the test
abbrev pub some_call : (Call → Bool) → List Call → Bool
some_call p [] = false
some_call p (c ∷ cs) = p c || some_call p cs

-- a sweep is among the calls
abbrev pub Sweeps : List Call → Type 0
Sweeps calls = some_call is_sweep calls ≡ true

-- a fold is among the calls
abbrev pub Folds : List Call → Type 0
Folds calls = some_call is_fold calls ≡ true

-- section s of the graph below has a place, number p
abbrev pub Placed : State → ℕ → ℕ → Type 0
Placed st s p = place_of st s ≡ Ok (At p)

-- root s of the drawn graph, at position j, has a place, which is the pile's root at that position and unfolds in the pile at every
-- depth as s does in the drawn graph
pub record RootKept (st : State) (j s : ℕ) : Type 0 where
  pub place : ℕ
  pub placed : Placed st s place
  pub rooted : root_of st.graph j ≡ Some place
  pub alike : Alike st.graph place st.drawn s

-- the promise for a new pile over g after a list of calls, refused ones included
pub record Promise (g : Graph) (calls : List Call) : Type 0 where
  -- once a fold is among the calls, two different foldable sections of the drawn graph that have a place share it exactly when their
  -- unfoldings in the drawn graph agree at every depth
  pub shares :
      Folds calls →
      (s t p q : ℕ) →
      (s ≢ t) →
      FoldAble (after g calls).drawn s →
      FoldAble (after g calls).drawn t →
      Placed (after g calls) s p →
      Placed (after g calls) t q →
      (p ≡ q) ↔ Alike (after g calls).drawn s (after g calls).drawn t
  -- the pile has as many roots as the drawn graph, and keeps each
  pub as_many : root_count_of (after g calls).graph ≡ root_count_of (after g calls).drawn
  pub roots : (j s : ℕ) → root_of (after g calls).drawn j ≡ Some s → RootKept (after g calls) j s
  -- once a sweep and a fold are among the calls, in either order, every section graph whose roots unfold as the drawn graph's has at
  -- least as many sections present as the pile
  pub least :
      Sweeps calls →
      Folds calls →
      (h : Graph) →
      Valid h →
      AlikeRoots (after g calls).drawn h →
      present_count (after g calls).graph ≤ present_count h
  -- and no later calls change anything: not the pile's graph, nor its slots and with them the places
  pub settled : Sweeps calls → Folds calls → (more : List Call) → after g (calls ++ more) ≡ after g calls

abbrev pub PromiseStands : Type 0
PromiseStands = (g : Graph) → Valid g → (calls : List Call) → Promise g calls
