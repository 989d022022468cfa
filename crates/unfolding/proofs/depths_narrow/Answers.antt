use Rattle.unfolding.proofs.Theorems.{depths_narrow}
use Rattle.unfolding.proofs.depths_narrow.Goals as goal

pub returns : goal.returns
returns c = depths_narrow
