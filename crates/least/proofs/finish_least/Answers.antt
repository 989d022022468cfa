use Rattle.least.proofs.Theorems.{finish_least}
use Rattle.least.proofs.finish_least.Goals as goal

pub returns : goal.returns
returns c = finish_least
