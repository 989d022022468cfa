-- The maps, computed.
use Rattle.std.proofs.Common.{refl}
use Rattle.std.specs.Fmt.{digits}
use Rattle.unfolding.specs.Groups.{class_by, rep_by, rounds_by}
use Rattle.unfolding.specs.Reach.{reached}
use Rattle.unfolding.specs.Sections.{rules}
use Rattle.foldmap.specs.Examples.{ExamplesHold}

pub examples_hold : ExamplesHold
unfolding class_by rep_by rounds_by reached rules digits
examples_hold = record { none = refl; folded = refl; swept = refl }
