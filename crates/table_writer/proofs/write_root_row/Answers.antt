use Rattle.std.proofs.Common.{sym, subst, ◌∙◌}
use Rattle.table_writer.specs.Texts.{root_row}
use Rattle.pieces.specs.Writes.{Writes}
use Rattle.pieces.proofs.Writing.{row_written}
use Rattle.table_writer.proofs.write_root_row.Goals as goal

pub returns : goal.returns
returns g c =
    subst (λ o. Writes (root_row o) c.args.out.now c.write_root.new.out c.write_root.result) (sym c.in-Some.is ∙ c.root.ensures)
    (row_written _ _ _ _ c.write_root.ensures.answer c.write_root.ensures.text)
