use Rattle.folding.proofs.Theorems.{sweep_sweeps}
use Rattle.folding.proofs.sweep_sweeps.Goals as goal

pub returns : goal.returns
returns c = sweep_sweeps
