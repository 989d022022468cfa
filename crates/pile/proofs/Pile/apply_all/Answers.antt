use Rattle.pile.specs.Piling.{run_all}
use Rattle.pile.proofs.Pile.apply_all.Goals as goal

pub returns-clause-kept : goal.returns-clause-kept
returns-clause-kept g c =
    run_all
    (g.G.SectionGraph.graph c.args.self.now.below)
    (g.met.G.SectionGraph.valid c.args.self.now.below)
    c.loop-call.self.table
    c.args.calls.now
    c.loop-call.call-index
    c.loop-call-test.false
    c.loop-call.invariant.1
