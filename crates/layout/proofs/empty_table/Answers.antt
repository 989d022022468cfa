use Rattle.std.proofs.Common.{refl}
use Rattle.std.specs.Fmt.{digits}
use Rattle.layout.proofs.empty_table.Goals as goal

pub returns : goal.returns
unfolding digits
returns c = refl
