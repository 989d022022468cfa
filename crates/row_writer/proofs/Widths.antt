-- How many columns a number takes.
use Rattle.std.proofs.Common.{◌≡◌, ℕ, ◌+◌, ◌-◌, ◌≤◌, ◌++◌, length, replicate, ℤ, pos, negsuc, nat_abs, decimal, sym, refl, ap, ◌∙◌, arith}
use lib.Signed.{lt_z}
use Rattle.std.specs.Fmt.{signed_decimal}
use Rattle.std.specs.Int.{from_bool}
use Rattle.std.proofs.lemmas.Bool.{le-ltb}
use Rattle.column.specs.Columns.{column}
use Rattle.column.proofs.Columns.{length_column}
use Rattle.row_writer.specs.Writing.{Wide}

-- the minus takes one byte
pub signed_length : (z : ℤ) → length (decimal (nat_abs z)) + from_bool (lt_z z (pos 0)) ≡ length (signed_decimal z)
signed_length (pos n) = ap (λ b. length (decimal n) + from_bool b) (le-ltb n 0 (omega arith)) ∙ omega arith
signed_length (negsuc n) = omega arith

pub wide_due : (w : ℕ) (z : ℤ) → w ≤ 12 → length (signed_decimal z) ≤ w → Wide w z w
wide_due w z few h = record { long = sym (length_column w z h); few = omega arith; room = h; same = refl }

pub wide_needed : (w : ℕ) (z : ℤ) → w ≤ length (signed_decimal z) → length (signed_decimal z) ≤ 21 → Wide w z (length (signed_decimal z))
wide_needed w z h few =
    let none : length (signed_decimal z) - length (signed_decimal z) ≡ w - length (signed_decimal z) = omega arith in
    let same : column (length (signed_decimal z)) z ≡ column w z = ap (λ k. replicate k 32 ++ signed_decimal z) none in
    record {
      long = sym (length_column (length (signed_decimal z)) z (omega arith)) ∙ ap length same;
      few = few;
      room = omega arith;
      same = same;
    }
