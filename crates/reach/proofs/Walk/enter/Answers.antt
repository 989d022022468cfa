use Rattle.std.proofs.Common.{◌≡◌, length, refl, arith}
use Rattle.unfolding.specs.Reach.{reached}
use Rattle.reach.proofs.Walking.{reached_small, room, here, enter_inside, enter_entered, enter_room, enter_grown}
use Rattle.reach.proofs.Walk.enter.Goals as goal

pub bounds-self-s : goal.bounds-self-s
bounds-self-s g c =
    let w = c.args.self.now in
    reached_small (g.G.SectionGraph.graph w.graph.now) (g.met.G.SectionGraph.valid w.graph.now) c.args.s c.requires

pub mark-requires : goal.mark-requires
mark-requires g c =
    let w = c.args.self.now in
    reached_small (g.G.SectionGraph.graph w.graph.now) (g.met.G.SectionGraph.valid w.graph.now) c.args.s c.requires

pub push-requires : goal.push-requires
push-requires g c =
    let w = c.args.self.now in
    let low = reached_small (g.G.SectionGraph.graph w.graph.now) (g.met.G.SectionGraph.valid w.graph.now) c.args.s c.requires in
    (omega arith, room w.marks w.pending.items c.args.s w.room low c.if-not-self-s.true)

pub invariant_of-self-clause-inside : goal.invariant_of-self-clause-inside
invariant_of-self-clause-inside g c =
    let w = c.args.self.now in
    let x = g.G.SectionGraph.graph w.graph.now in
    let low = reached_small x (g.met.G.SectionGraph.valid w.graph.now) c.args.s c.requires in
    let sized : length w.marks ≡ 1024 = omega arith in
    enter_inside w.marks c.mark.new.marks w.pending.items c.push.new.self.items c.args.s sized low c.if-not-self-s.true c.mark.ensures c.push.ensures.items (reached x) c.requires w.inside

pub invariant_of-self-clause-entered : goal.invariant_of-self-clause-entered
invariant_of-self-clause-entered g c =
    let w = c.args.self.now in
    let low = reached_small (g.G.SectionGraph.graph w.graph.now) (g.met.G.SectionGraph.valid w.graph.now) c.args.s c.requires in
    let sized : length w.marks ≡ 1024 = omega arith in
    enter_entered w.marks c.mark.new.marks w.pending.items c.push.new.self.items c.args.s sized low c.if-not-self-s.true c.mark.ensures c.push.ensures.items w.entered

pub invariant_of-self-clause-room : goal.invariant_of-self-clause-room
invariant_of-self-clause-room g c =
    let w = c.args.self.now in
    let low = reached_small (g.G.SectionGraph.graph w.graph.now) (g.met.G.SectionGraph.valid w.graph.now) c.args.s c.requires in
    let sized : length w.marks ≡ 1024 = omega arith in
    enter_room w.marks c.mark.new.marks w.pending.items c.push.new.self.items c.args.s sized low c.if-not-self-s.true c.mark.ensures c.push.ensures.items w.room

pub returns-then-not-self-s-clause-onward : goal.returns-then-not-self-s-clause-onward
returns-then-not-self-s-clause-onward g c =
    let w = c.args.self.now in
    let low = reached_small (g.G.SectionGraph.graph w.graph.now) (g.met.G.SectionGraph.valid w.graph.now) c.args.s c.requires in
    let sized : length w.marks ≡ 1024 = omega arith in
    record { graph = refl; grown = enter_grown w.marks c.mark.new.marks w.pending.items c.push.new.self.items c.args.s sized low c.if-not-self-s.true c.mark.ensures c.push.ensures.items }

pub returns-then-not-self-s-clause-here : goal.returns-then-not-self-s-clause-here
returns-then-not-self-s-clause-here g c =
    let w = c.args.self.now in
    let low = reached_small (g.G.SectionGraph.graph w.graph.now) (g.met.G.SectionGraph.valid w.graph.now) c.args.s c.requires in
    let sized : length w.marks ≡ 1024 = omega arith in
    here w.marks c.mark.new.marks w.pending.items c.push.new.self.items c.args.s sized low c.if-not-self-s.true c.mark.ensures c.push.ensures.items
