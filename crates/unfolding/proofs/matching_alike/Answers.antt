use Rattle.unfolding.proofs.Matching.{matching_alike}
use Rattle.unfolding.proofs.matching_alike.Goals as goal

pub returns : goal.returns
returns c = matching_alike
