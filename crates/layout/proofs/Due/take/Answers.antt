use Rattle.std.proofs.Common.{◌∙◌}
use Rattle.layout.proofs.Steps.{bytes_step}
use Rattle.layout.proofs.Due.take.Goals as goal

pub returns-in-Bytes : goal.returns-in-Bytes
returns-in-Bytes c = rw c.in-Bytes.is (c.take_bytes.ensures ∙ bytes_step _ _ c.in-Bytes.part.now)
