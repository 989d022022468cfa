-- What it is that a section is named, where the file has the parts.
use Rattle.std.specs.Prelude.{◌≡◌, ◌≢◌, ℕ, ◌+◌, ◌<◌, ◌≤◌, List, [], ◌∷◌, ◌++◌, length, take, drop, Some, slice_index, EachIndex}
use Rattle.field.specs.Fields.{word}
use Rattle.elf.specs.declared.Header.{Header}
use Rattle.elf.specs.Layout.{sections, place, section}
use Rattle.section_names.specs.Names.{table_number, name_of}

-- there is a section i, and its header lies in the file
pub record HasHeader (b : List ℕ) (i : ℕ) : Type 0 where
  pub counted : i < sections b
  pub inside : place b i + 64 ≤ length b

-- t is what a header tells of, and lies in the file
pub record LiesIn (b : List ℕ) (h : Header) (t : List ℕ) : Type 0 where
  pub inside : h.offset + h.size ≤ length b
  pub bytes : t ≡ take h.size (drop h.offset b)

-- t is the table of names
pub record NameTable (b t : List ℕ) : Type 0 where
  pub numbered : table_number b ≢ 0
  pub header : HasHeader b (table_number b)
  pub lies : LiesIn b (section b (table_number b)) t

-- at place p of a table the bytes xs stand, none of them 0, and behind them a 0
pub record StandsAt (t : List ℕ) (p : ℕ) (xs : List ℕ) : Type 0 where
  pub bytes : take (length xs + 1) (drop p t) ≡ xs ++ 0 ∷ []
  pub free : EachIndex xs (λ k. slice_index xs k ≢ 0)

-- section i is named xs: it stands in the table of names at the place that the header of the section tells
pub record Named (b : List ℕ) (i : ℕ) (xs : List ℕ) : Type 0 where
  pub header : HasHeader b i
  pub table : List ℕ
  pub names : NameTable b table
  pub stands : StandsAt table (word b (place b i)) xs

-- what is told is the name
abbrev pub OnlyNames : Type 0
OnlyNames = (b : List ℕ) (i : ℕ) (xs : List ℕ) → name_of b i ≡ Some xs → Named b i xs

-- the name is told; so there is no second one
abbrev pub NamesTold : Type 0
NamesTold = (b : List ℕ) (i : ℕ) (xs : List ℕ) → Named b i xs → name_of b i ≡ Some xs
