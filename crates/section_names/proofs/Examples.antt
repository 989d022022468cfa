-- The small file, read.
use Rattle.std.proofs.Common.{refl}
use Rattle.field.specs.Fields.{half, word, long}
use Rattle.section_names.specs.Examples.{ExamplesHold}

pub examples_hold : ExamplesHold
unfolding half word long
examples_hold = record { whole = refl; empty = refl; shared = refl; endless = refl; beyond = refl; short = refl }
