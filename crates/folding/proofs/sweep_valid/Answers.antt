use Rattle.folding.proofs.Theorems.{sweep_valid}
use Rattle.folding.proofs.sweep_valid.Goals as goal

pub returns : goal.returns
returns c = sweep_valid
