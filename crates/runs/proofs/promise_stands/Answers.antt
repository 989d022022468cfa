use Rattle.runs.proofs.Promised.{promise_stands}
use Rattle.runs.proofs.promise_stands.Goals as goal

pub returns : goal.returns
returns c = promise_stands
