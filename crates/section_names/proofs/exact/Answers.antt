use Rattle.section_names.proofs.Names.{told, only}
use Rattle.section_names.proofs.exact.Goals as goal

pub returns : goal.returns
returns c = record { told = told; only = only }
