use Rattle.row.proofs.Rows.{row_reads, row_only, render_plain, render_length}
use Rattle.row.proofs.exact.Goals as goal

pub returns : goal.returns
returns c = record { back = row_reads; only = row_only; once = render_plain; long = render_length }
