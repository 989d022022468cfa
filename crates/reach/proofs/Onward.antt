-- The walk goes on, and on.
use Rattle.std.proofs.Common.{◌∙◌}
use Rattle.graph.specs.declared.SectionGraph.{Ghosts}
use Rattle.reach.specs.declared.Walk.{Walk}
use Rattle.reach.specs.Onward.{Onward}
use Rattle.reach.proofs.Walking.{grown_on}

module _ {X : Type 0} {g : Ghosts X} where
  pub onward_on : (a b c : Walk X g) → Onward a b → Onward b c → Onward a c
  onward_on a b c o p =
      record {
        graph = p.graph ∙ o.graph;
        grown = grown_on a.marks b.marks c.marks a.pending.items b.pending.items c.pending.items o.grown p.grown;
      }
