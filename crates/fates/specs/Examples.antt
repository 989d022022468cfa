-- Small texts, and what is read.
use Rattle.std.specs.Prelude.{◌≡◌, ℕ, List, [], ◌∷◌, ◌++◌, ◌+◌, replicate, Some, Ok, Err, Option, slice_set}
use Rattle.fates.specs.declared.Fate.{Fate}
use Rattle.fates.specs.declared.Fate.TheVariants.{Own, Folded, Swept}
use Rattle.fates.specs.Maps.{no_fates, bad_row_at, dangling_at, read_map}

-- a number of one digit in its columns
abbrev pub cell : ℕ → List ℕ
cell digit = replicate 11 32 ++ (48 + digit) ∷ []

-- the letter M, three numbers, and byte 10
abbrev pub row : ℕ → ℕ → ℕ → List ℕ
row s outcome p = 77 ∷ (cell s ++ cell outcome ++ cell p ++ 10 ∷ [])

-- the fates of sections 1 and 2
abbrev pub pair : Fate → Fate → List (Option Fate)
pair one two = slice_set (slice_set no_fates 1 (Some one)) 2 (Some two)

pub record ExamplesHold : Type 0 where
  -- no row, no section
  pub none : read_map [] ≡ Ok (record { fates = no_fates })
  -- 2 was folded into 1
  pub folded : read_map (row 1 1 1 ++ row 2 2 1) ≡ Ok (record { fates = pair Own (Folded 1) })
  -- 1 was swept
  pub swept : read_map (row 1 3 0 ++ row 2 1 2) ≡ Ok (record { fates = pair Swept Own })
  -- 2 was folded into 1, which was swept
  pub dangling : read_map (row 1 3 0 ++ row 2 2 1) ≡ Err (dangling_at 38)
  -- the rows are not in ascending order
  pub order : read_map (row 2 1 2 ++ row 1 1 1) ≡ Err (bad_row_at 38)
