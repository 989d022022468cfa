use Rattle.std.proofs.Common.{drop, sym, ap, ◌∙◌}
use Rattle.std.proofs.lemmas.List.{take_rest}
use Rattle.column.specs.Columns.{number}
use Rattle.column.proofs.Reading.{blanks_passed}
use Rattle.column.proofs.read_short.Goals as goal

pub returns : goal.returns
returns c =
    c.read_number.ensures
    ∙ ap number (take_rest c.args.text.now c.blanks-start.result)
    ∙ ap (λ i. number (drop i c.args.text.now)) c.blanks-start.ensures.start
    ∙ sym (blanks_passed c.args.text.now)
