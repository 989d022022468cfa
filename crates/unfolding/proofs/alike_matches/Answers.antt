use Rattle.unfolding.proofs.Matching.{alike_matches}
use Rattle.unfolding.proofs.alike_matches.Goals as goal

pub returns : goal.returns
returns c = alike_matches
