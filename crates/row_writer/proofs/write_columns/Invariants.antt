use Rattle.std.proofs.Common.{◌≡◌, map, length, take}
use Rattle.column.specs.Columns.{columns}
use Rattle.row_writer.specs.Writing.{over}
use Rattle.row_writer.proofs.write_columns.Given as goal

abbrev pub invariant-loop-cell : goal.invariant-loop-cell
invariant-loop-cell g l =
    (l.at ≡ length (columns g.T.Cell.due (take l.cell-index (map g.T.Cell.integer l.cells))))
    × (l.out ≡ over (columns g.T.Cell.due (take l.cell-index (map g.T.Cell.integer l.cells))) l.initial.out)
