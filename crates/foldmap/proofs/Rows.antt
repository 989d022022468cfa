-- Exactly the sections that are present below have a row.
use Rattle.std.proofs.Common.{◌≡◌, ℕ, ◌<◌, ◌≤◌, ◌⊎◌, cond, eqb, Some, None, Ok, ap, inl, inr}
use Rattle.std.proofs.lemmas.Bool.{cases_lt}
use Rattle.model.specs.Graph.{Present, count_of}
use Rattle.calls.specs.declared.Place.TheVariants.{Swept as Nowhere}
use Rattle.runs.specs.Promise.{Placed}
use Rattle.runs.specs.State.{place_of, after}
use Rattle.runs.proofs.Telling.{pile_tells}
use Rattle.row_writer.specs.declared.Outcome.{Outcome}
use Rattle.row_writer.specs.declared.Outcome.TheVariants.{Own, Other, Swept}
use Rattle.foldmap.specs.Map.{told_of}
use Rattle.foldmap.specs.Laws.{RowsStand}

pub rows_stand : RowsStand
rows_stand g v calls s =
    record {
      present = λ here. found ((pile_tells g v calls).somewhere s here);
      absent = λ away. none away (cases_lt s (count_of g));
    }
  where
    found : ((p : ℕ) × Placed (after g calls) s p) ⊎ (place_of (after g calls) s ≡ Ok Nowhere)
        → (told : Outcome × ℕ) × (told_of s (place_of (after g calls) s) ≡ Some told)
    found (inl at) = ((cond (eqb at.0 s) Own Other, at.0), ap (told_of s) at.1)
    found (inr gone) = ((Swept, 0), ap (told_of s) gone)

    none : (Present g s → ⊥) → (s < count_of g) ⊎ (count_of g ≤ s) → told_of s (place_of (after g calls) s) ≡ None
    none away (inl low) = ap (told_of s) ((pile_tells g v calls).absent s low away)
    none away (inr past) = ap (told_of s) ((pile_tells g v calls).beyond s past)
