use Rattle.folding.proofs.Theorems.{fold_valid}
use Rattle.folding.proofs.fold_valid.Goals as goal

pub returns : goal.returns
returns c = fold_valid
