-- The walk before and after some of its work.
use Rattle.std.specs.Prelude.{◌≡◌}
use Rattle.graph.specs.declared.SectionGraph.{Ghosts}
use Rattle.reach.specs.declared.Walk.{Walk}
use Rattle.reach.specs.Walk.{Grown}

-- the walk went on over the same graph, and more is marked
pub record Onward {X : Type 0} {g : Ghosts X} (old new : Walk X g) : Type 0 where
  pub graph : new.graph ≡ old.graph
  pub grown : Grown old.marks old.pending.items new.marks new.pending.items
