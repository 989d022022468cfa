use Rattle.std.proofs.Common.{sym, ◌∙◌}
use Rattle.calls.specs.declared.Call.TheVariants.{Bind}
use Rattle.ledger.specs.Answers.{bind_refused}
use Rattle.ledger.proofs.Telling.{bind_refusal}
use Rattle.pile.specs.Piling.{checked}
use Rattle.pile.proofs.Pile.check_bind.Goals as goal

pub returns : goal.returns
returns g c =
    let x = g.G.SectionGraph.graph c.args.self.now.below in
    let v = g.met.G.SectionGraph.valid c.args.self.now.below in
    let t = c.args.self.now.table in
    let p = c.is_present.ensures in
    checked x v t c.args.self.now.sound (Bind c.args.name c.args.section) _ _ ((λ i. bind_refused t (p i) c.args.name c.args.section) ∙ sym (bind_refusal x t c.args.name c.args.section)) c.check_bind.ensures
