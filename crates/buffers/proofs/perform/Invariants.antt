use Rattle.std.proofs.Common.{◌≡◌, drop}
use Rattle.runs.specs.State.{run}
use Rattle.ledger.specs.Told.{told}
use Rattle.buffers.specs.Outcome.{refusal_among}
use Rattle.buffers.proofs.perform.Given as goal

-- what is refused among all calls and where they lead is that of those that are left, from here
abbrev pub invariant-loop-call : goal.invariant-loop-call
invariant-loop-call g l =
    (l.pile.below ≡ l.initial.pile.below) ×
    (refusal_among (told (g.G.SectionGraph.graph l.initial.pile.below) l.initial.pile.table) l.calls ≡
    refusal_among (told (g.G.SectionGraph.graph l.initial.pile.below) l.pile.table) (drop l.call-index l.calls)) ×
    (run (told (g.G.SectionGraph.graph l.initial.pile.below) l.initial.pile.table) l.calls ≡
    run (told (g.G.SectionGraph.graph l.initial.pile.below) l.pile.table) (drop l.call-index l.calls))
