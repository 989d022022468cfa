-- A text cut into its rows, and a reader that takes them one by one.
use Rattle.std.specs.Prelude.{ℕ, suc, ◌+◌, Bool, cond, List, [], ◌∷◌, length, take, Some, None, Option, ◌==◌}
use Rattle.std.specs.List.{concat}

-- a byte before the first row
abbrev pub grown : ℕ → List (List ℕ) → List (List ℕ)
grown b [] = (b ∷ []) ∷ []
grown b (l ∷ ls) = (b ∷ l) ∷ ls

-- the rows of a text: each ends in byte 10, but the last may be cut short
abbrev pub lines : List ℕ → List (List ℕ)
lines [] = []
lines (b ∷ t) = cond (b == 10) ((b ∷ []) ∷ lines t) (grown b (lines t))

-- the place of row k: where the rows before it end
abbrev pub row_start : List (List ℕ) → ℕ → ℕ
row_start ls k = length (concat (take k ls))

abbrev pub later : Option ℕ → Option ℕ
later None = None
later (Some k) = Some (suc k)

-- the verdict after a row: that row is not taken, or the rows behind it decide
abbrev pub after : {S : Type 0} → (S → Option ℕ) → Option S → Option ℕ
after rest None = Some 0
after rest (Some q) = later (rest q)

-- a reader is a step from state to state, and the states at which a text may end. Its verdict on some rows is the number
-- of the first row that it does not take, or of the row that is missing; none if it takes them all
abbrev pub verdict : {S : Type 0} → (S → List ℕ → Option S) → (S → Bool) → List (List ℕ) → S → Option ℕ
verdict step final [] q = cond (final q) None (Some 0)
verdict step final (l ∷ ls) q = after (verdict step final ls) (step q l)

abbrev pub placed_after : {S : Type 0} → ℕ → (S → Option ℕ) → Option S → Option ℕ
placed_after at rest None = Some at
placed_after at rest (Some q) = rest q

-- the same verdict by the place of the row in the text, where the rows begin at `at`
abbrev pub place_from : {S : Type 0} → (S → List ℕ → Option S) → (S → Bool) → ℕ → List (List ℕ) → S → Option ℕ
place_from step final at [] q = cond (final q) None (Some at)
place_from step final at (l ∷ ls) q = placed_after at (place_from step final (at + length l) ls) (step q l)
