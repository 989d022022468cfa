use Rattle.folding.proofs.Theorems.{fold_keeps_reached}
use Rattle.folding.proofs.fold_keeps_reached.Goals as goal

pub returns : goal.returns
returns c = fold_keeps_reached
