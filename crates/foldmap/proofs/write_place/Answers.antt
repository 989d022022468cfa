use Rattle.std.proofs.Common.{sym, subst, ◌∙◌}
use Rattle.pieces.specs.Writes.{Writes}
use Rattle.pieces.proofs.Writing.{row_written}
use Rattle.foldmap.specs.Map.{row_of}
use Rattle.foldmap.proofs.write_place.Goals as goal

pub returns : goal.returns
returns g c =
    subst (λ o. Writes (row_of c.args.s o) c.args.out.now c.write_moved.new.out c.write_moved.result) (sym c.in-Some.is ∙ c.row.ensures)
    (row_written _ _ _ _ c.write_moved.ensures.answer c.write_moved.ensures.text)
