-- The small texts, read.
use Rattle.std.proofs.Common.{refl}
use Rattle.column.specs.Columns.{read_column}
use Rattle.row_part.specs.Parts.{natural_at}
use Rattle.fates.specs.Rows.{read_row}
use Rattle.fates.specs.Examples.{ExamplesHold}

pub examples_hold : ExamplesHold
unfolding read_column natural_at read_row
examples_hold = record { none = refl; folded = refl; swept = refl; dangling = refl; order = refl }
