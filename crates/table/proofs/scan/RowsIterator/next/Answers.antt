use Rattle.std.proofs.Common.{◌+◌, ◌≤◌, length, sym, subst, ap, ◌∙◌, arith}
use Rattle.std.proofs.lemmas.Slice.{between_to_end}
use Rattle.row.specs.Reading.{read_row}
use Rattle.row.specs.Told.{told}
use Rattle.table.proofs.Turns.{row_fits}
use Rattle.table.proofs.scan.RowsIterator.next.Goals as goal

-- a row ends in the text
pub invariant_of-self-2 : goal.invariant_of-self-2
invariant_of-self-2 c =
    let t = c.args.self.now.text.now in
    let at = c.args.self.now.at in
    record {
      inside = subst (λ part. at + length part ≤ length t) (sym (c.part.ensures ∙ c.in-Ok.ensures.part))
          (row_fits t at (told c.in-Ok.row) (ap read_row (sym (between_to_end t at (length t) (omega arith))) ∙ sym c.in-Ok.ensures.row) (omega arith));
    }
