use Rattle.std.proofs.Common.{◌≡◌, ℕ, true, [], Some, refl, sym, ◌∙◌, subst, List}
use Rattle.std.proofs.lemmas.List.Elements.{All-pop}
use Rattle.model.specs.Graph.{root_of}
use Rattle.unfolding.specs.Reach.{marked}
use Rattle.reach.proofs.Walking.{Followed, fresh_sized, followed_fresh, followed_more, taken_on, measure_falls, marks_reached, nothing_waits}
use Rattle.reach.proofs.reach.Goals as goal

pub loop-s-init : goal.loop-s-init
loop-s-init g c =
    let x = g.G.SectionGraph.graph c.args.graph.now in
    let start = c.new-walk.result in
    let walk = c.enter_roots.new.self in (
      rw (c.enter_roots.ensures.onward.graph, c.new-walk.ensures.graph) refl,
      rw c.new-walk.ensures.graph at c.enter_roots.ensures.taken,
      followed_fresh x start.marks start.pending.items c.new-walk.ensures.fresh walk.marks walk.pending.items c.enter_roots.ensures.onward.grown,
      fresh_sized start.marks start.pending.items c.new-walk.ensures.fresh walk.marks walk.pending.items c.enter_roots.ensures.onward.grown,
    )

pub invariant_of-walk-clause-entered : goal.invariant_of-walk-clause-entered
invariant_of-walk-clause-entered g c =
    (All-pop (λ s. marked c.loop-s.walk.marks s ≡ true) c.loop-s.walk.pending.items c.pop.new.self.items c.pop.result c.pop.ensures.items c.loop-s.walk.entered).0

pub follow-requires : goal.follow-requires
follow-requires g c =
    let s = c.in-Some.s in
    c.loop-s.walk.inside s
    ((All-pop (λ s. marked c.loop-s.walk.marks s ≡ true) c.loop-s.walk.pending.items c.pop.new.self.items (Some s) c.in-Some.ensures.items c.loop-s.walk.entered).1)

pub loop-s-smaller : goal.loop-s-smaller
loop-s-smaller g c =
    let old = c.loop-s.walk in
    let new = c.follow.new.self in
    measure_falls old.marks new.marks old.pending.items c.pop.new.self.items new.pending.items c.in-Some.s c.in-Some.ensures.items c.follow.ensures.onward.grown

pub loop-s-preserved : goal.loop-s-preserved
loop-s-preserved g c =
    let x = g.G.SectionGraph.graph c.args.graph.now in
    let old = c.loop-s.walk in
    let new = c.follow.new.self in
    let h = c.loop-s.invariant in
    let grown = c.follow.ensures.onward.grown in (
      rw c.follow.ensures.onward.graph h.0,
      taken_on (root_of x) old.marks new.marks grown.kept h.1,
      followed_more x old.marks new.marks old.pending.items c.pop.new.self.items new.pending.items c.in-Some.s c.in-Some.ensures.items grown
          (rw h.0 at c.follow.ensures.taken)
          h.2,
      grown.sized ∙ h.3,
    )

pub returns : goal.returns
returns g c =
    let x = g.G.SectionGraph.graph c.args.graph.now in
    let walk = c.loop-s.walk in
    let h = c.loop-s.invariant in
    let none : walk.pending.items ≡ [] = nothing_waits walk.pending.items (sym c.pop.ensures.value ∙ c.in_default.is) in
    marks_reached x (g.met.G.SectionGraph.valid c.args.graph.now) walk.marks h.1 (subst (λ (ps : List ℕ). Followed x walk.marks ps) none h.2) h.3 (rw h.0 at walk.inside)
