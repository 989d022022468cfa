use Rattle.std.proofs.Common.{suc}
use Rattle.partition.proofs.Turns.{filling_end, refining_set}
use Rattle.partition.proofs.Refinement.refine.Goals as goal

pub loop-s-preserved : goal.loop-s-preserved
loop-s-preserved g c =
    refining_set
    (g.G.SectionGraph.graph c.args.self.now.graph.now)
    (g.met.G.SectionGraph.valid c.args.self.now.graph.now)
    c.args.self.now.bases.now
    c.args.old.now
    c.loop-s.new
    c.loop-s.s
    c.leader-leader.result
    c.args.self.now.known
    c.loop-s.invariant
    c.loop-s-test.true
    c.leader-leader.ensures

pub returns : goal.returns
returns g c k h =
    filling_end (g.G.SectionGraph.graph c.args.self.now.graph.now) (suc k) c.loop-s.new c.loop-s.s (c.loop-s.invariant k h) c.loop-s-test.false
