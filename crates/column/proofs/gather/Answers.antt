use Rattle.std.proofs.Common.{rules, tests}
use Rattle.std.proofs.lemmas.Iterator.{YieldsList-from_slice}
use Rattle.column.proofs.Sums.{callable, gathers, small_sum}
use Rattle.column.proofs.gather.Goals as goal

pub try_fold-requires-clause-callable : goal.try_fold-requires-clause-callable
try_fold-requires-clause-callable c =
    callable (Unit {0}) _ (λ x. x.now) _ _ (λ n x r q k. search (rules, tests)) _ c.args.text.now (YieldsList-from_slice c.args.text.now cc) c.requires
    (λ n x h. search (rules, tests))

pub returns : goal.returns
returns c =
    let value =
    gathers _ _ (λ x. x.now) _ _ (λ n x r q k. search (rules, tests)) _ _ c.args.text.now _
    (YieldsList-from_slice c.args.text.now cc)
    c.try_fold.ensures.ran in
    record { value = value; small = small_sum _ c.args.text.now c.requires value }
