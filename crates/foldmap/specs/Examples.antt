-- Maps of small piles, byte for byte.
use Rattle.std.specs.Prelude.{◌≡◌, ℕ, List, [], ◌∷◌, ◌++◌, ◌+◌, replicate}
use Rattle.calls.specs.declared.Call.TheVariants.{Sweep, Fold}
use Rattle.model.specs.Graph.{empty}
use Rattle.runs.specs.State.{after}
use Rattle.runs.specs.Examples.{pair}
use Rattle.foldmap.specs.Map.{map_text}

-- a number of one digit in its columns
abbrev pub cell : ℕ → List ℕ
cell digit = replicate 11 32 ++ (48 + digit) ∷ []

-- the letter M, three numbers, and byte 10
abbrev pub row : ℕ → ℕ → ℕ → List ℕ
row s outcome p = 77 ∷ (cell s ++ cell outcome ++ cell p ++ 10 ∷ [])

-- the pile over `pair`, where 1 and 2 are alike, 2 is the root, and 0 is absent
pub record ExamplesHold : Type 0 where
  -- no section, no row
  pub none : map_text (after empty (Fold ∷ [])) ≡ []
  -- 2 was folded into 1
  pub folded : map_text (after pair (Fold ∷ [])) ≡ row 1 1 1 ++ row 2 2 1
  -- 1 was swept
  pub swept : map_text (after pair (Sweep ∷ Fold ∷ [])) ≡ row 1 3 0 ++ row 2 1 2
