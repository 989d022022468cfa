use Rattle.fates.proofs.Texts.{back, only}
use Rattle.fates.proofs.Refusals.{bad_rows}
use Rattle.fates.proofs.exact.Goals as goal

pub returns : goal.returns
returns c = record { back = back; only = only; bad = bad_rows }
