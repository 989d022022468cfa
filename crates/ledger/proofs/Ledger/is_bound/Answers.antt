use Rattle.std.proofs.Common.{ℕ, is_some, Option, ap, ◌∙◌}
use Rattle.ledger.proofs.Binds.{has_names}
use Rattle.ledger.proofs.Ledger.is_bound.Goals as goal

pub returns : goal.returns
returns c =
    c.is_some.ensures ∙
    (ap (λ (o : Option ℕ). is_some o) c.section_bound.ensures ∙ has_names c.args.self.now.binds.items c.args.name)
