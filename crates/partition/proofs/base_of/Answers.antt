use Rattle.std.proofs.Common.{sym, ◌∙◌}
use Rattle.partition.proofs.Leaders.{base_none, base_made}
use Rattle.partition.proofs.base_of.Goals as goal

pub returns-then-not-may_fold : goal.returns-then-not-may_fold
returns-then-not-may_fold g c =
    sym (base_none (g.G.SectionGraph.graph c.args.graph.now) c.args.s (sym c.may_fold.ensures ∙ c.if-not-may_fold.true))

pub returns : goal.returns
returns g c =
    base_made (g.G.SectionGraph.graph c.args.graph.now) c.args.bases.now c.args.s c.leader-leader.result c.content_digest-digest.result
    c.requires.small
    (sym c.may_fold.ensures ∙ c.if-not-may_fold.false)
    c.requires.below
    c.leader-leader.ensures
    c.content_digest-digest.ensures
