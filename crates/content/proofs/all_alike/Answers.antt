use Rattle.std.proofs.Common.{sym, ◌∙◌}
use Rattle.model.specs.Graph.{section_of}
use Rattle.content.proofs.Tested.{test_next, test_fails, told_both}
use Rattle.content.proofs.all_alike.Goals as goal

pub returns-then-not-alike : goal.returns-then-not-alike
returns-then-not-alike g c test computes =
    let x = g.G.SectionGraph.graph c.args.graph.now in
    let pair = c.in-Some-Some in
    let asked = told_both test (section_of x c.args.s) (section_of x c.args.t) c.loop-j.j pair.r pair.q
    (sym c.relocation.ensures ∙ pair.is-0)
    (sym c.relocation-in-loop-j.ensures ∙ pair.is-1) in
    test_fails test (section_of x c.args.s) (section_of x c.args.t) c.loop-j.j
    (asked ∙ (sym (computes pair.r pair.q c.alike.result c.alike.ensures) ∙ c.if-not-alike.true))
    (c.loop-j.invariant test computes)

pub loop-j-preserved : goal.loop-j-preserved
loop-j-preserved g c test computes =
    let x = g.G.SectionGraph.graph c.args.graph.now in
    let pair = c.in-Some-Some in
    let asked = told_both test (section_of x c.args.s) (section_of x c.args.t) c.loop-j.j pair.r pair.q
    (sym c.relocation.ensures ∙ pair.is-0)
    (sym c.relocation-in-loop-j.ensures ∙ pair.is-1) in
    test_next test (section_of x c.args.s) (section_of x c.args.t) c.loop-j.j
    (asked ∙ (sym (computes pair.r pair.q c.alike.result c.alike.ensures) ∙ c.if-not-alike.false))
    (c.loop-j.invariant test computes)
