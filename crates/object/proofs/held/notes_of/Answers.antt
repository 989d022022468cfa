use Rattle.std.proofs.Common.{ℕ, List, vec_items, subst}
use Rattle.checklist.proofs.Checks.{verdict as verdict_law}
use Rattle.rules.specs.Ending.{Ends}
use Rattle.rules.specs.Verdict.{checks}
use Rattle.object.proofs.Holding.{ended_held, ended_lawful}
use Rattle.object.proofs.held.notes_of.Goals as goal

pub returns : goal.returns
returns c =
    let b = vec_items c.args.file.now
    in let w = subst (λ (y : List ℕ). Ends y (checks y) c.examine.result) c.as_slice.ensures.value c.examine.ensures
    in record { ends = w; met = ended_held b c.examine.result w; lawful = ended_lawful b c.examine.result w; first = verdict_law (checks b) }
