use Rattle.std.proofs.Common.{sym, ◌∙◌, arith}
use Rattle.model.specs.Graph.{root_of}
use Rattle.reach.proofs.Walking.{root_reached, taken_more, named, unnamed, taken_all, roots_past}
use Rattle.reach.proofs.Onward.{onward_on}
use Rattle.reach.proofs.Walk.enter_roots.Goals as goal
use Rattle.reach.proofs.Walk.enter_roots.Goals.{in-Some, in_default}

pub enter-requires : goal.enter-requires
enter-requires g c =
    let w = c.loop-j.self in
    root_reached (g.G.SectionGraph.graph w.graph.now) (g.met.G.SectionGraph.valid w.graph.now) c.loop-j.j c.in-Some.s (sym c.root.ensures ∙ c.in-Some.is)

pub loop-j-preserved : goal.loop-j-preserved
loop-j-preserved g c =
    let start = c.args.self.now in
    let old = c.loop-j.self in
    let j = c.loop-j.j in
    let roots = root_of (g.G.SectionGraph.graph start.graph.now) in
    let h = c.loop-j.invariant in
    elim c.match-root.branch [
      | in-Some w ↦
          let new = w.enter.new.self in
          let is = rw h.0.graph at (sym c.root.ensures ∙ w.in-Some.is) in
          rw w.self-is (
            onward_on start old new h.0 w.enter.ensures.onward,
            taken_more roots old.marks new.marks j w.enter.ensures.onward.grown.kept (named (roots j) new.marks w.in-Some.s is w.enter.ensures.here) h.1,
          )
      | in_default w ↦
          let is = rw h.0.graph at (sym c.root.ensures ∙ w.in_default.is) in
          rw w.self-is (h.0, taken_more roots old.marks old.marks j (λ s m. m) (unnamed (roots j) old.marks is) h.1)
    ]

pub returns-clause-taken : goal.returns-clause-taken
returns-clause-taken g c =
    let x = g.G.SectionGraph.graph c.args.self.now.graph.now in
    taken_all (root_of x) c.loop-j.self.marks c.loop-j.j (roots_past x c.loop-j.j (omega arith)) c.loop-j.invariant.1
