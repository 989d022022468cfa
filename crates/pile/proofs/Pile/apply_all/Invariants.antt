use Rattle.std.proofs.Common.{◌≡◌, take}
use Rattle.runs.specs.State.{after}
use Rattle.ledger.specs.Told.{told, Reachable}
use Rattle.pile.proofs.Pile.apply_all.Given as goal

abbrev pub invariant-loop-call : goal.invariant-loop-call
invariant-loop-call g l =
    (l.self.below ≡ l.initial.self.below) ×
    (told (g.G.SectionGraph.graph l.initial.self.below) l.self.table ≡
    after (g.G.SectionGraph.graph l.initial.self.below) (take l.call-index l.calls)) ×
    Reachable (g.G.SectionGraph.graph l.initial.self.below) l.self.table
