use Rattle.std.proofs.Common.{◌≡◌, ◌+◌, ◌-◌, length}
use Rattle.model.specs.Graph.{root_of}
use Rattle.reach.specs.Walk.{Taken, mark_count}
use Rattle.reach.proofs.Walking.{Followed}
use Rattle.reach.proofs.reach.Given as goal

abbrev pub invariant-loop-s : goal.invariant-loop-s
invariant-loop-s g l =
    (g.G.SectionGraph.graph l.walk.graph.now ≡ g.G.SectionGraph.graph l.graph) ×
    Taken (root_of (g.G.SectionGraph.graph l.graph)) l.walk.marks ×
    Followed (g.G.SectionGraph.graph l.graph) l.walk.marks l.walk.pending.items ×
    (length l.walk.marks ≡ 1024)

abbrev pub decreases-loop-s : goal.decreases-loop-s
decreases-loop-s g l = 1024 - mark_count l.walk.marks + length l.walk.pending.items
