use Rattle.runs.proofs.Refusing.{refuses}
use Rattle.runs.proofs.refusals_come.Goals as goal

pub returns : goal.returns
returns c = refuses
