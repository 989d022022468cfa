-- What a row writer answers, and what it leaves in the buffer.
use Rattle.std.specs.Prelude.{◌≡◌, ℕ, ◌+◌, ◌≤◌, cond, List, [], ◌∷◌, ◌++◌, length, take, drop, ℤ, pos, Ok, Err, Result, nat_le}
use Rattle.std.specs.Fmt.{signed_decimal}
use Rattle.fault.specs.declared.Fault.{Fault}
use Rattle.fault.specs.declared.Kind.TheVariants.{Small}
use Rattle.fault.specs.declared.Layer.TheVariants.{Output}
use Rattle.fault.specs.Numbers.{kind_number, layer_number}
use Rattle.column.specs.Columns.{column, columns}
use Rattle.row_writer.specs.declared.Outcome.{Outcome}
use Rattle.row_writer.specs.declared.Outcome.TheVariants.{Own, Other, Swept}
use Rattle.row_writer.specs.declared.Number.{Number}
use Rattle.row_writer.specs.declared.Number.TheVariants.{Natural, Signed}

-- the refusal of a buffer that is too short, with the length needed
abbrev pub small : ℕ → Fault
small needed = record { kind = Small; place = needed; layer = Output }

-- what is answered: the row's length, if the buffer has room for it
unfoldable pub wrote : List ℕ → List ℕ → Result ℕ Fault
wrote row b = cond (nat_le (length row) (length b)) (Ok (length row)) (Err (small (length row)))

-- a text over the front of a buffer
abbrev pub over : List ℕ → List ℕ → List ℕ
over row b = row ++ drop (length row) b

-- the buffer afterwards: the row over its front if there is room for it, and else as it was
unfoldable pub put : List ℕ → List ℕ → List ℕ
put row b = cond (nat_le (length row) (length b)) (over row b) b

-- a text in the middle of a buffer
abbrev pub put_at : ℕ → List ℕ → List ℕ → List ℕ
put_at at row b = take at b ++ (row ++ drop (at + length row) b)

-- a letter, numbers in columns, and byte 10
abbrev pub row_text : ℕ → ℕ → List ℤ → List ℕ
row_text c w zs = c ∷ (columns w zs ++ 10 ∷ [])

-- the number that is written
abbrev pub value : Number → ℤ
value (Natural n) = pos n
value (Signed z) = z

-- r columns are those that a number takes where w are due
pub record Wide (w : ℕ) (z : ℤ) (r : ℕ) : Type 0 where
  pub long : r ≡ length (column w z)
  pub few : r ≤ 21
  pub room : length (signed_decimal z) ≤ r
  pub same : column r z ≡ column w z

-- the row that tells a refusal: its number, its place and the number of its layer
abbrev pub fault_row : Fault → List ℕ
fault_row f = row_text 70 12 (pos (kind_number f.kind) ∷ pos f.place ∷ pos (layer_number f.layer) ∷ [])

-- the number of an outcome in a fold map
abbrev pub outcome_number : Outcome → ℕ
outcome_number Own = 1
outcome_number Other = 2
outcome_number Swept = 3

-- the row of a fold map: a section's number, its outcome and its place
abbrev pub moved_row : ℕ → Outcome → ℕ → List ℕ
moved_row s outcome p = row_text 77 12 (pos s ∷ pos (outcome_number outcome) ∷ pos p ∷ [])
