use Rattle.fates.proofs.Examples.{examples_hold}
use Rattle.fates.proofs.examples_hold.Goals as goal

pub returns : goal.returns
returns c = examples_hold
