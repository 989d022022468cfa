use Rattle.section_names.proofs.Examples.{examples_hold}
use Rattle.section_names.proofs.examples_hold.Goals as goal

pub returns : goal.returns
returns c = examples_hold
