use Rattle.unfolding.proofs.Theorems.{groups_last}
use Rattle.unfolding.proofs.groups_last.Goals as goal

pub returns : goal.returns
returns c = groups_last
