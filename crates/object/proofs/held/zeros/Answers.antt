use Rattle.object.proofs.Showing.{zeros_taken}
use Rattle.object.proofs.held.zeros.Goals as goal

pub returns : goal.returns
returns c = zeros_taken c.args.size 65535 c.requires
