use Rattle.std.proofs.Common.{sym, ◌∙◌}
use Rattle.calls.specs.declared.Call.TheVariants.{Pin}
use Rattle.ledger.specs.Answers.{pin_refused}
use Rattle.ledger.proofs.Telling.{pin_refusal}
use Rattle.pile.specs.Piling.{checked}
use Rattle.pile.proofs.Pile.check_pin.Goals as goal

pub returns : goal.returns
returns g c =
    let x = g.G.SectionGraph.graph c.args.self.now.below in
    let v = g.met.G.SectionGraph.valid c.args.self.now.below in
    let t = c.args.self.now.table in
    let p = c.is_present.ensures in
    checked x v t c.args.self.now.sound (Pin c.args.section) _ _ ((λ i. pin_refused t (p i) c.args.section) ∙ sym (pin_refusal x t c.args.section)) c.check_pin.ensures
