use Rattle.std.proofs.Common.{true, false, rules}
use Rattle.std.proofs.lemmas.Iterator.{first_from_Range}
use Rattle.partition.proofs.Search.{finds_lowest}
use Rattle.partition.proofs.lowest.Goals as goal

pub returns-clause-lowest : goal.returns-clause-lowest
returns-clause-lowest g c =
    finds_lowest (goal.F-post g c.args.passes) c.args.first c.args.end c.find.result
    (first_from_Range _ _ _ _ (λ t. goal.F-post g c.args.passes t true) (λ t. goal.F-post g c.args.passes t false) c.find.ensures.ran
    (λ x q k. search rules)
    (λ x q k. (search rules, search rules)))
