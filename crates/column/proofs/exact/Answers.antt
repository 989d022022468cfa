use Rattle.column.proofs.Columns.{column_reads, column_only}
use Rattle.column.proofs.exact.Goals as goal

pub returns : goal.returns
returns c = record { back = column_reads; only = column_only }
