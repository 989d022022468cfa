use Rattle.std.proofs.lemmas.Bool.Decides.{Decides-eqb}
use Rattle.std.proofs.lemmas.Slice.Eq.{slice_eq-Decides}
use Rattle.partition.proofs.Turns.{turn_next, turn_last}
use Rattle.partition.proofs.partition.Goals as goal

pub returns-then-eq : goal.returns-then-eq
returns-then-eq g c =
    let h =
    turn_last
    (g.G.SectionGraph.graph c.args.graph.now)
    (g.met.G.SectionGraph.valid c.args.graph.now)
    c.loop-k.k
    c.loop-k.class
    c.refine-next.result
    c.loop-k.invariant
    c.refine-next.ensures
    (slice_eq-Decides Decides-eqb c.refine-next.result c.loop-k.class _ (c.if-eq.ensures)) in
    record { classes = h.classes; rounds = h.rounds }

pub loop-k-preserved : goal.loop-k-preserved
loop-k-preserved g c =
    turn_next
    (g.G.SectionGraph.graph c.args.graph.now)
    c.loop-k.k
    c.loop-k.class
    c.refine-next.result
    c.loop-k.invariant
    c.refine-next.ensures
    (slice_eq-Decides Decides-eqb c.refine-next.result c.loop-k.class _ (c.if-eq.ensures))
