use Rattle.std.proofs.Common.{sym, subst, ◌∙◌}
use Rattle.table_writer.specs.Texts.{relocation_row}
use Rattle.pieces.specs.Writes.{Writes}
use Rattle.pieces.proofs.Writing.{row_written}
use Rattle.table_writer.proofs.Section.write_relocation_row.Goals as goal

pub returns : goal.returns
returns g c =
    subst (λ o. Writes (relocation_row o) c.args.out.now c.write_relocation.new.out c.write_relocation.result)
    (sym c.in-Some.is ∙ c.relocation.ensures)
    (row_written _ _ _ _ c.write_relocation.ensures.answer c.write_relocation.ensures.text)
