use Rattle.folding.proofs.Theorems.{sweep_keeps_apart}
use Rattle.folding.proofs.sweep_keeps_apart.Goals as goal

pub returns : goal.returns
returns c = sweep_keeps_apart
