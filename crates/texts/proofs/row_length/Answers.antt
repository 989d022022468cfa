use Rattle.std.proofs.Common.{◌≡◌, rules}
use Rattle.std.specs.Prelude.{MatchResult}
use Rattle.std.proofs.lemmas.Grind.{common_steps}
use Rattle.row_writer.specs.Writing.{fault_row}
use Rattle.texts.proofs.Filling.{wrote_either}
use Rattle.texts.proofs.row_length.Goals as goal

pub returns : goal.returns
returns c =
    let n = c.unwrap_or_else.result in
    let told : MatchResult c.write_fault.result (λ x. n ≡ x) (λ e. n ≡ e.place) = search (rules, common_steps) in
    wrote_either (fault_row c.args.fault.now) _ c.write_fault.result n c.write_fault.ensures.answer told
