use Rattle.folding.proofs.Theorems.{fold_folds}
use Rattle.folding.proofs.fold_folds.Goals as goal

pub returns : goal.returns
returns c = fold_folds
