use Rattle.std.proofs.Common.{sym, ap, ◌∙◌, arith}
use Rattle.graph.specs.Bytes.{told_count}
use Rattle.reach.specs.Walk.{aims, aim_of}
use Rattle.reach.proofs.Walking.{aim_reached, taken_more, named, unnamed, taken_all, aims_past}
use Rattle.reach.proofs.Onward.{onward_on}
use Rattle.reach.proofs.Walk.follow.Goals as goal
use Rattle.reach.proofs.Walk.follow.Goals.{in-Some, in_default}

pub enter-requires : goal.enter-requires
enter-requires g c =
    let w = c.loop-j.self in
    let start = c.args.self.now in
    let h = c.loop-j.invariant in
    aim_reached (g.G.SectionGraph.graph w.graph.now) (g.met.G.SectionGraph.valid w.graph.now) c.args.s c.loop-j.j c.in-Some.t
    (rw h.0.graph c.requires)
    (sym (c.aim.ensures ∙ ap aim_of c.relocation.ensures) ∙ c.in-Some.is)

pub loop-j-preserved : goal.loop-j-preserved
loop-j-preserved g c =
    let start = c.args.self.now in
    let old = c.loop-j.self in
    let j = c.loop-j.j in
    let to = aims (g.G.SectionGraph.graph start.graph.now) c.args.s in
    let h = c.loop-j.invariant in
    let asked = sym (c.aim.ensures ∙ ap aim_of c.relocation.ensures) in
    elim c.match-aim.branch [
      | in-Some w ↦
          let new = w.enter.new.self in
          let is = rw h.0.graph at (asked ∙ w.in-Some.is) in
          rw w.self-is (
            onward_on start old new h.0 w.enter.ensures.onward,
            taken_more to old.marks new.marks j w.enter.ensures.onward.grown.kept (named (to j) new.marks w.in-Some.t is w.enter.ensures.here) h.1,
          )
      | in_default w ↦
          let is = rw h.0.graph at (asked ∙ w.in_default.is) in
          rw w.self-is (h.0, taken_more to old.marks old.marks j (λ s m. m) (unnamed (to j) old.marks is) h.1)
    ]

pub returns-clause-taken : goal.returns-clause-taken
returns-clause-taken g c =
    let x = g.G.SectionGraph.graph c.args.self.now.graph.now in
    let count = c.relocations_told-j-end.ensures ∙ ap told_count c.record_of.ensures in
    taken_all (aims x c.args.s) c.loop-j.self.marks c.loop-j.j (aims_past x c.args.s c.loop-j.j (omega arith)) c.loop-j.invariant.1
