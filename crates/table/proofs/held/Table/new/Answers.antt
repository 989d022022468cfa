use Rattle.std.proofs.Common.{◌≡◌, ℕ, true, List, vec_items, Option, sym, subst}
use Rattle.table.specs.Held.{held}
use Rattle.table.specs.Notes.{no_notes}
use Rattle.table.specs.Outcomes.{held_none}
use Rattle.table.proofs.held.Table.new.Goals as goal

-- no text is held, and nothing is noted
pub invariant_of-result : goal.invariant_of-result
invariant_of-result c = record {
  fit = subst (λ (xs : List (Option ℕ)). held (vec_items c.new.result) xs ≡ true) (sym c.none.ensures)
      (subst (λ (t : List ℕ). held t no_notes ≡ true) (sym c.new.ensures.items) held_none);
}
