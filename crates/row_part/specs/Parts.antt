-- The parts of a row: what is read at a place of a text, or why not.
use Rattle.std.specs.Prelude.{◌≡◌, ℕ, ◌+◌, cond, ◌&&◌, List, length, take, drop, ℤ, pos, negsuc, Some, None, Ok, Err, Option, Result, ◌==◌, int_le, nat_le, slice_index}
use Rattle.std.specs.Borrow.{Bor}
use Rattle.model.specs.declared.Target.{Target}
use Rattle.model.specs.Laws.{is_alignment, lowest, highest}
use Rattle.column.specs.Columns.{column_of}
use Rattle.row_part.specs.declared.Cause.{Cause}
use Rattle.row_part.specs.declared.Cause.TheVariants.{Column, Range, End}

-- one step after another, up to the first that refuses
abbrev pub and_then : {A B E : Type 0} → Result A E → (A → Result B E) → Result B E
and_then (Ok a) f = f a
and_then (Err e) f = Err e

abbrev pub formed : Option ℤ → Result ℤ Cause
formed None = Err Column
formed (Some z) = Ok z

-- the number in the w columns from `at` on, all of which have to be there; no number takes more than 18
abbrev pub column_at : ℕ → List ℕ → ℕ → Result ℤ Cause
column_at w t at = cond (nat_le (at + w) (length t)) (formed (column_of (take w (drop at t)))) (Err Column)

-- a natural number not above the limit
abbrev pub bounded : ℕ → ℤ → Result ℕ Cause
bounded limit (pos n) = cond (nat_le n limit) (Ok n) (Err Range)
bounded limit (negsuc n) = Err Range

abbrev pub within : ℤ → ℤ → ℤ → Result ℤ Cause
within low high z = cond (int_le low z && int_le z high) (Ok z) (Err Range)

abbrev pub bounded_at : ℕ → List ℕ → ℕ → ℕ → Result ℕ Cause
bounded_at w t at limit = and_then (column_at w t at) (bounded limit)

-- a natural number in its columns
unfoldable pub natural_at : ℕ → List ℕ → ℕ → ℕ → Result ℕ Cause
natural_at w t at limit = bounded_at w t at limit

-- byte 10 is due
abbrev pub end_at : List ℕ → ℕ → Result ℕ Cause
end_at t at = cond (slice_index t at == 10) (Ok (at + 1)) (Err End)

abbrev pub aligned : ℕ → Result ℕ Cause
aligned a = cond (is_alignment a) (Ok a) (Err Range)

abbrev pub alignment_at : List ℕ → ℕ → Result ℕ Cause
alignment_at t at = and_then (natural_at 12 t at 65536) aligned

abbrev pub displacement_at : List ℕ → ℕ → Target → Result ℤ Cause
displacement_at t at target = and_then (column_at 12 t at) (within lowest (highest target))

-- the front of a text that ends in a 10 at a place, or there is none
abbrev pub Ended : List ℕ → ℕ → Result (Bor (List ℕ)) Cause → Type 0
Ended t at (Ok part) = (end_at t at ≡ Ok (at + 1)) × (part.now ≡ take (at + 1) t)
Ended t at (Err e) = end_at t at ≡ Err e
