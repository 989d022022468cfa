use Rattle.std.proofs.Common.{sym}
use Rattle.std.proofs.lemmas.List.{length-take-le}
use Rattle.row.proofs.Rows.{bytes_counted}
use Rattle.row.proofs.read_bytes.Goals as goal

pub slice_bounds-part-end : goal.slice_bounds-part-end
slice_bounds-part-end c =
    let m = bytes_counted c.args.text.now c.in_ok-count.count (sym c.in_ok-count.ensures) in
    rw c.from.ensures (sym (length-take-le _ c.args.text.now m.room))
