use Rattle.layout.proofs.Texts.{told_apart}
use Rattle.layout.proofs.tables_differ.Goals as goal

pub returns : goal.returns
returns c = told_apart
