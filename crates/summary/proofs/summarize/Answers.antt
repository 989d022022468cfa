use Rattle.std.proofs.Common.{sym, ◌∙◌, rules, arith}
use Rattle.summary.proofs.Sums.{sums_none, sums_absent, sums_present}
use Rattle.summary.proofs.summarize.Goals as goal
use Rattle.summary.proofs.summarize.Goals.{in-Some, in_default}

pub loop-s-init : goal.loop-s-init
loop-s-init g c = sums_none (g.G.SectionGraph.graph c.args.graph.now)

pub loop-s-preserved : goal.loop-s-preserved
loop-s-preserved g c =
    let x = g.G.SectionGraph.graph c.args.graph.now in
    elim c.match-record_of.branch [
      | in-Some w ↦
          rw (w.present-is, w.pinned-is, w.bytes-is, w.relocations-is)
          (sums_present x c.loop-s.s _ _ _ _ w.in-Some.x _ _ _ c.loop-s.invariant (sym c.record_of.ensures ∙ w.in-Some.is)
          (search rules) w.from-bytes.ensures w.from-relocations.ensures (omega arith) (omega arith))
      | in_default w ↦
          rw (w.present-is, w.pinned-is, w.bytes-is, w.relocations-is)
          (sums_absent x c.loop-s.s _ _ _ _ c.loop-s.invariant (sym c.record_of.ensures ∙ w.in_default.is))
    ]
