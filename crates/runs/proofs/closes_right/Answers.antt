use Rattle.runs.proofs.Telling.{closes_right}
use Rattle.runs.proofs.closes_right.Goals as goal

pub returns : goal.returns
returns c = closes_right
