-- What a table that is printed is to the section graph that was read, in the words of linkers.
use Rattle.std.specs.Prelude.{◌≡◌, ℕ, ◌≤◌, List, None}
use Rattle.model.specs.Graph.{Graph}
use Rattle.model.specs.Laws.{Valid}
use Rattle.unfolding.specs.Groups.{present_count}
use Rattle.least.specs.Theorems.{AlikeRoots}
use Rattle.layout.specs.Reading.{fault_of, graph_of}

-- text u is the table of a section graph with roots as those of g, and of a least one
pub record Reduced (g : Graph) (u : List ℕ) : Type 0 where
  -- it reads back: no row of it is refused
  pub reads_back : fault_of u ≡ None
  -- as a graph with as many roots as g has, which unfold as those of g do, one by one and at every depth
  pub roots : AlikeRoots g (graph_of u)
  -- and no section graph whose roots unfold as those of g has fewer sections present
  pub least : (h : Graph) → Valid h → AlikeRoots g h → present_count (graph_of u) ≤ present_count h
