-- How long a row of a fold map is.
use Rattle.std.proofs.Common.{◌≡◌, ℕ, ◌^◌, ◌<◌, ◌∷◌, [], length, pos, arith}
use Rattle.column.specs.Columns.{columns}
use Rattle.column.proofs.Columns.{length_columns, signed_of_natural}
use Rattle.row_writer.specs.declared.Outcome.{Outcome}
use Rattle.row_writer.specs.declared.Outcome.TheVariants.{Own, Other, Swept}
use Rattle.row_writer.specs.Writing.{outcome_number, moved_row}
use Rattle.row_writer.proofs.Filled.{length_row}

few : (outcome : Outcome) → outcome_number outcome < 4
few Own = omega arith
few Other = omega arith
few Swept = omega arith

pub moved_length : (s p : ℕ) (outcome : Outcome) → s < 2 ^ 16 → p < 2 ^ 16 → length (moved_row s outcome p) ≡ 38
moved_length s p outcome hs hp =
    let cells = pos s ∷ (pos (outcome_number outcome) ∷ (pos p ∷ [])) in
    let long =
    length_columns 12 cells
    (signed_of_natural s (omega arith), (signed_of_natural (outcome_number outcome) (omega (arith, few outcome)), (signed_of_natural p (omega arith), tt))) in
    omega (arith, long, length_row 77 (columns 12 cells))
