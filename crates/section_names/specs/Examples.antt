-- A small file, and how its sections are named.
use Rattle.std.specs.Prelude.{◌≡◌, ℕ, List, [], ◌∷◌, ◌++◌, take, replicate, Some, None}
use Rattle.section_names.specs.Names.{text_at, name_of}

-- a 0, `.rela.text` and a 0, and `.b` with no 0 after it
abbrev pub names : List ℕ
names = 0 ∷ 46 ∷ 114 ∷ 101 ∷ 108 ∷ 97 ∷ 46 ∷ 116 ∷ 101 ∷ 120 ∷ 116 ∷ 0 ∷ 46 ∷ 98 ∷ []

-- a number below 256 in a field, with zeros after its byte
abbrev pub number : ℕ → ℕ → List ℕ
number n zeros = n ∷ replicate zeros 0

-- a section header that tells the place of a name, and where the section lies
abbrev pub header : ℕ → ℕ → ℕ → List ℕ
header name offset size = number name 3 ++ replicate 20 0 ++ number offset 7 ++ number size 7 ++ replicate 24 0

-- three section headers from place 80 on; the last is that of the table of names, which lies at 64
abbrev pub file : List ℕ
file =
    replicate 40 0 ++ number 80 7 ++ replicate 12 0 ++ number 3 1 ++ number 2 1
    ++ names
    ++ replicate 2 0
    ++ header 0 0 0
    ++ header 6 0 0
    ++ header 12 64 14

pub record ExamplesHold : Type 0 where
  pub whole : text_at 1 names ≡ Some (46 ∷ 114 ∷ 101 ∷ 108 ∷ 97 ∷ 46 ∷ 116 ∷ 101 ∷ 120 ∷ 116 ∷ [])
  -- a 0 ends it at once
  pub empty : name_of file 0 ≡ Some []
  -- it begins within another name
  pub shared : name_of file 1 ≡ Some (46 ∷ 116 ∷ 101 ∷ 120 ∷ 116 ∷ [])
  -- no 0 ends it
  pub endless : name_of file 2 ≡ None
  -- there is no such section
  pub beyond : name_of file 3 ≡ None
  -- the last byte is wanting, so the header of the table of names is not whole
  pub short : name_of (take 271 file) 1 ≡ None
