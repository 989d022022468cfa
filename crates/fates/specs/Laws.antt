-- Which texts are fold maps.
use Rattle.std.specs.Prelude.{◌≡◌, ℕ, suc, ◌*◌, ◌<◌, List, length, take, Some, Ok, Err, Option, ◌≢◌}
use Rattle.fates.specs.declared.Fate.{Fate}
use Rattle.fates.specs.declared.Fate.TheVariants.{Own, Folded}
use Rattle.fates.specs.declared.FoldMap.{FoldMap}
use Rattle.fates.specs.Maps.{fate_of, fates_text, bad_row_at, read_map}

-- the fates that a map can tell: a section that was folded is found at a lower number, and the section there at its own
pub record Sound (fates : List (Option Fate)) : Type 0 where
  pub long : length fates ≡ 1024
  pub lower : (s p : ℕ) → fate_of fates s ≡ Some (Folded p) → p < s
  pub own : (s p : ℕ) → fate_of fates s ≡ Some (Folded p) → fate_of fates p ≡ Some Own

-- the text of a map is accepted, and the map is read
abbrev pub ReadBack : Type 0
ReadBack = (m : FoldMap) → Sound m.fates → read_map (fates_text m.fates) ≡ Ok m

-- nothing else is accepted: what is read is a map, and the text is its text
abbrev pub OnlyWritten : Type 0
OnlyWritten = (t : List ℕ) (m : FoldMap) → read_map t ≡ Ok m → Sound m.fates × (t ≡ fates_text m.fates)

-- row k of the text is there, and no map agrees with the text through it
pub record NoneAgrees (t : List ℕ) (k : ℕ) : Type 0 where
  pub there : 38 * k < length t
  pub none : (m : FoldMap) → Sound m.fates → take (38 * suc k) t ≢ take (38 * suc k) (fates_text m.fates)

-- so it is with the row at whose first byte a text is refused with 6
abbrev pub BadRows : Type 0
BadRows = (t : List ℕ) (p : ℕ) → read_map t ≡ Err (bad_row_at p) → (k : ℕ) × (p ≡ 38 * k) × NoneAgrees t k
