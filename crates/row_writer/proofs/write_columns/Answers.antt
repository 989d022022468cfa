use Rattle.std.proofs.Common.{ℕ, ◌+◌, ◌-◌, map, length, take, drop, ℤ, ap, ◌∙◌, subst, rules}
use Rattle.column.specs.Columns.{column}
use Rattle.row_writer.specs.Writing.{Wide}
use Rattle.row_writer.proofs.Filled.{cell_at, room_more, write_more}
use Rattle.row_writer.proofs.write_columns.Goals as goal

pub slice_bounds-fill-end : goal.slice_bounds-fill-end
slice_bounds-fill-end g c =
    let w = g.T.Cell.due in
    let v = g.T.Cell.integer in
    let here = cell_at v c.args.cells.now c.loop-cell.cell-index c.cell-item.result c.loop-cell-test.true c.cell-item.is in
    let wide = subst (λ (z : ℤ). Wide w z c.width.result) here.1 c.width.ensures in
    let h =
    room_more w (map v c.args.cells.now) c.loop-cell.cell-index c.loop-cell.at
    c.width.result
    c.args.out.now
    here.0
    c.requires
    c.loop-cell.invariant.0
    wide in
    search rules

pub loop-cell-preserved : goal.loop-cell-preserved
loop-cell-preserved g c =
    let w = g.T.Cell.due in
    let v = g.T.Cell.integer in
    let here = cell_at v c.args.cells.now c.loop-cell.cell-index c.cell-item.result c.loop-cell-test.true c.cell-item.is in
    let wide = subst (λ (z : ℤ). Wide w z c.width.result) here.1 c.width.ensures in
    let part : ℕ =
    length (take (c.loop-cell.at + c.width.result - c.loop-cell.at) (drop c.loop-cell.at c.loop-cell.out)) in
    write_more w (map v c.args.cells.now) c.loop-cell.cell-index c.loop-cell.at
    c.width.result
    c.loop-cell.out
    c.args.out.now
    c.fill.new.out
    here.0
    c.requires
    c.loop-cell.invariant.0
    c.loop-cell.invariant.1
    wide
    (c.fill.ensures ∙ ap (column part) here.1)
