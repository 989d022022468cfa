-- What is proved of the folded and the swept graph.
use Rattle.std.specs.Prelude.{◌≡◌, ℕ, ◌+◌, ◌<◌, ◌≤◌, Some, Decides}
use Rattle.model.specs.Graph.{Graph, Present, section_of, count_of, root_of, root_count_of}
use Rattle.model.specs.Laws.{Valid}
use Rattle.unfolding.specs.Groups.{FoldAble, present_count}
use Rattle.unfolding.specs.Reach.{Reached, reached, swept, dropped}
use Rattle.unfolding.specs.Sections.{Alike, rep, folded, merged, Apart, AllReached}

-- the fold, for any graph
pub record Folds (g : Graph) : Type 0 where
  pub count : count_of (folded g) ≡ count_of g
  -- present are exactly the present sections that are their own representatives
  pub stays : (s : ℕ) → Present g s → rep g s ≡ s → Present (folded g) s
  pub goes : (s : ℕ) → Present (folded g) s → (rep g s ≡ s) × Present g s
  -- what stays of a group is its lowest number
  pub lowest : (s t : ℕ) → Present (folded g) s → FoldAble g s → FoldAble g t → Alike g t g s → s ≤ t
  -- the representative unfolds at every depth as the section did
  pub unfolds : (s : ℕ) → Alike (folded g) (rep g s) g s
  -- each root is now the representative
  pub root_count : root_count_of (folded g) ≡ root_count_of g
  pub roots : (j s : ℕ) → root_of g j ≡ Some s → root_of (folded g) j ≡ Some (rep g s)
  -- no two different sections are alike
  pub apart : Apart (folded g)
  pub counts : present_count g ≡ present_count (folded g) + merged g

abbrev pub FoldFolds : Type 0
FoldFolds = (g : Graph) → Folds g

abbrev pub FoldValid : Type 0
FoldValid = (g : Graph) → Valid g → Valid (folded g)

-- the test finds what is reached
abbrev pub ReachDecided : Type 0
ReachDecided = (g : Graph) (s : ℕ) → s < count_of g → Decides (reached g s) (Reached g s)

-- the sweep, for any graph
pub record Sweeps (g : Graph) : Type 0 where
  pub count : count_of (swept g) ≡ count_of g
  -- what is reached stays as it was, and only that is present
  pub stays : (s : ℕ) → Reached g s → section_of (swept g) s ≡ section_of g s
  pub goes : (s : ℕ) → Present (swept g) s → Present g s × Reached g s
  -- a reached section unfolds at every depth as before
  pub unfolds : (s : ℕ) → Reached g s → Alike (swept g) s g s
  pub roots : (swept g).roots ≡ g.roots
  pub all_reached : AllReached (swept g)
  pub counts : present_count g ≡ present_count (swept g) + dropped g

abbrev pub SweepSweeps : Type 0
SweepSweeps = (g : Graph) → Sweeps g

abbrev pub SweepValid : Type 0
SweepValid = (g : Graph) → Valid g → Valid (swept g)

-- folding keeps reachedness, sweeping keeps apartness
abbrev pub FoldKeepsReached : Type 0
FoldKeepsReached = (g : Graph) → Valid g → AllReached g → AllReached (folded g)

abbrev pub SweepKeepsApart : Type 0
SweepKeepsApart = (g : Graph) → Apart g → Apart (swept g)

-- what has nothing to fold or to sweep stays as it is, and so does what was folded or swept
pub record Settled : Type 0 where
  pub fold : (g : Graph) → Apart g → folded g ≡ g
  pub sweep : (g : Graph) → AllReached g → swept g ≡ g
  pub fold_twice : (g : Graph) → folded (folded g) ≡ folded g
  pub sweep_twice : (g : Graph) → swept (swept g) ≡ swept g

-- neither has anything left to do
pub record Finished (g : Graph) : Type 0 where
  pub apart : Apart g
  pub all_reached : AllReached g
  pub fold : folded g ≡ g
  pub sweep : swept g ≡ g

-- after both, in either order
abbrev pub BothFinish : Type 0
BothFinish = (g : Graph) → Valid g → Finished (folded (swept g)) × Finished (swept (folded g))
