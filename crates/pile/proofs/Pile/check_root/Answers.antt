use Rattle.std.proofs.Common.{sym, ◌∙◌}
use Rattle.calls.specs.declared.Call.TheVariants.{Root}
use Rattle.ledger.specs.Answers.{root_refused}
use Rattle.ledger.proofs.Telling.{root_refusal}
use Rattle.pile.specs.Piling.{checked}
use Rattle.pile.proofs.Pile.check_root.Goals as goal

pub returns : goal.returns
returns g c =
    let x = g.G.SectionGraph.graph c.args.self.now.below in
    let v = g.met.G.SectionGraph.valid c.args.self.now.below in
    let t = c.args.self.now.table in
    let p = c.is_present.ensures in
    let n = c.root_count.ensures in
    checked x v t c.args.self.now.sound (Root c.args.section) _ _ ((λ i. root_refused t (p i) (n i) c.args.section) ∙ sym (root_refusal x t c.args.section)) c.check_root.ensures
