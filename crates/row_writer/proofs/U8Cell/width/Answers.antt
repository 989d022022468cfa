use Rattle.std.proofs.Common.{pos, arith}
use Rattle.column.proofs.Columns.{signed_of_byte}
use Rattle.row_writer.proofs.Widths.{wide_due}
use Rattle.row_writer.proofs.U8Cell.width.Goals as goal

pub returns : goal.returns
returns c =
    wide_due 4 (pos c.args.self) (omega arith) (omega (arith, signed_of_byte c.args.self (omega arith)))
