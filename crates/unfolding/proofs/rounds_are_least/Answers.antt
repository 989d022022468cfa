use Rattle.unfolding.proofs.Theorems.{rounds_are_least}
use Rattle.unfolding.proofs.rounds_are_least.Goals as goal

pub returns : goal.returns
returns c = rounds_are_least
