use Rattle.std.proofs.Common.{Err, ap, ◌∙◌, arith}
use Rattle.row_writer.proofs.Filled.{length_needed}
use Rattle.row_writer.proofs.Puts.{refused, taken}
use Rattle.row_writer.proofs.write_row.Goals as goal

pub returns-then-out-needed : goal.returns-then-out-needed
returns-then-out-needed g c =
    let long = length_needed c.args.letter g.T.Cell.due g.T.Cell.integer c.args.cells.now _ c.columns_length-needed.ensures.long in
    let p = refused _ c.args.out.now _ long c.if-out-needed.true in
    record { answer = ap (λ f. Err f) c.new.ensures ∙ p.0; text = p.1 }

pub fill_row-requires : goal.fill_row-requires
fill_row-requires g c =
    let long = length_needed c.args.letter g.T.Cell.due g.T.Cell.integer c.args.cells.now _ c.columns_length-needed.ensures.long in
    omega (arith, long, c.if-out-needed.false)

pub returns : goal.returns
returns g c =
    let long = length_needed c.args.letter g.T.Cell.due g.T.Cell.integer c.args.cells.now _ c.columns_length-needed.ensures.long in
    let p = taken _ c.args.out.now _ long c.if-out-needed.false in
    record { answer = p.0; text = c.fill_row.ensures ∙ p.1 }
