use Rattle.std.proofs.Common.{arith, rules, tests}
use Rattle.std.proofs.lemmas.Iterator.{YieldsList-from_slice}
use Rattle.std.proofs.lemmas.Iterator.Adapters.{fits_from_length, at_most_from_yields_List}
use Rattle.row_writer.proofs.columns_length.Goals as goal

pub returns-clause-few : goal.returns-clause-few
returns-clause-few g c =
    let p = c.sum.ensures.runs tt in
    omega (
      arith,
      fits_from_length _ _ 16 337 (at_most_from_yields_List (YieldsList-from_slice c.args.cells.now cc) (omega arith))
          c.map.ensures.closure
          (omega arith)
          (λ x r q k. search (rules, tests))
          p.0 p.0.seen p.1,
      p.3,
    )
