-- No graph with alike roots is smaller than one that is swept and folded.
use Rattle.std.specs.Prelude.{◌≡◌, ℕ, ◌≤◌, Some}
use Rattle.model.specs.Graph.{Graph, root_of, root_count_of}
use Rattle.model.specs.Laws.{Valid}
use Rattle.unfolding.specs.Groups.{present_count}
use Rattle.unfolding.specs.Reach.{swept}
use Rattle.unfolding.specs.Sections.{Alike, folded, Apart, AllReached}

-- as many roots, which unfold alike one by one, at every depth
pub record AlikeRoots (g h : Graph) : Type 0 where
  pub count : root_count_of g ≡ root_count_of h
  pub alike : (j s t : ℕ) → root_of g j ≡ Some s → root_of h j ≡ Some t → Alike g s h t

-- a graph in which everything present is reached and no two different sections are alike has the fewest sections present
abbrev pub Least : Type 0
Least = (p : Graph) → AllReached p → Apart p → (h : Graph) → AlikeRoots p h → present_count p ≤ present_count h

-- so has a graph that was swept and folded, in either order, among the graphs whose roots are alike to the roots that it had
abbrev pub FinishLeast : Type 0
FinishLeast =
    (g : Graph) →
    Valid g →
    (h : Graph) →
    AlikeRoots g h →
    (present_count (folded (swept g)) ≤ present_count h) × (present_count (swept (folded g)) ≤ present_count h)

-- and the two orders leave as many
abbrev pub OrdersAgree : Type 0
OrdersAgree = (g : Graph) → Valid g → present_count (folded (swept g)) ≡ present_count (swept (folded g))
