-- What the inner steps of the reading rest on.
use Rattle.std.specs.Prelude.{◌≡◌, ℕ, ◌+◌, ◌*◌, ◌<◌, ◌≤◌, List, length, None, Option, slice_index_or}
use Rattle.field.specs.Fields.{long}
use Rattle.elf.specs.Layout.{sections}
use Rattle.rules.specs.declared.Symbols.{Symbols}
use Rattle.rules.specs.Rules.{symbols, part}

-- the headers of all sections stand in the file, from `first` on
pub record Headed (b : List ℕ) (first n : ℕ) : Type 0 where
  pub first_right : first ≡ long b 40
  pub count_right : n ≡ sections b
  pub ends : first + 64 * n ≤ length b
  pub few : n ≤ 1024

-- the symbols are those of the object, and stand in the file
pub record Tabled (b : List ℕ) (y : Symbols) : Type 0 where
  pub symbols_right : y ≡ symbols b
  pub ends : y.from + 24 * y.count ≤ length b

-- the sections with relocations below i are noted, each for its own
abbrev pub Parted : List ℕ → ℕ → List (Option ℕ) → Type 0
Parted b i parts = (t : ℕ) → t < 1024 → slice_index_or parts t None ≡ part b t i
