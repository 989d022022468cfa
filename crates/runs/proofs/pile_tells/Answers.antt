use Rattle.runs.proofs.Telling.{pile_tells}
use Rattle.runs.proofs.pile_tells.Goals as goal

pub returns : goal.returns
returns c = pile_tells
