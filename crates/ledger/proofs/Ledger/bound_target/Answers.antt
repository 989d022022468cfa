use Rattle.std.proofs.Common.{◌≡◌, rules, ap, sym, ◌∙◌}
use Rattle.std.specs.Option.{option_map_or}
use Rattle.std.proofs.lemmas.Grind.{common_steps}
use Rattle.model.specs.declared.Target.TheVariants.{Section}
use Rattle.ledger.specs.Told.{bound_by}
use Rattle.ledger.proofs.Binds.{bound_section, bound_outside}
use Rattle.ledger.proofs.Ledger.bound_target.Goals as goal

pub returns-in-Section : goal.returns-in-Section
returns-in-Section c =
    c.in-Section.is ∙
    (bound_section c.args.self.now.binds.items c.in-Section.field-0 ∙ ap (bound_by c.args.self.now) (sym c.in-Section.is))

pub returns-in-Outside : goal.returns-in-Outside
returns-in-Outside c =
    let sent : c.map_or.result ≡ option_map_or Section c.section_bound.result c.args.target = search (rules, common_steps) in
    sent ∙
    ((λ i. option_map_or Section (c.section_bound.ensures i) (c.in-Outside.is i)) ∙
    (bound_outside c.args.self.now.binds.items c.in-Outside.e ∙ ap (bound_by c.args.self.now) (sym c.in-Outside.is)))
