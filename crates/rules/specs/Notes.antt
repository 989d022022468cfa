-- What is noted of an object while it is checked, so that no question about it has to search.
use Rattle.std.specs.Prelude.{◌≡◌, ℕ, Bool, List, map, filter, take, Some, None, Option}
use Rattle.std.specs.List.{range_with_len}
use Rattle.elf.specs.Layout.{sections, section, root}
use Rattle.rules.specs.Rules.{symbols, part}
use Rattle.rules.specs.Listing.{Item, significance, listing, lists}
use Rattle.rules.specs.declared.Notes.{Notes}
use Rattle.rules.specs.declared.RootList.{RootList}

-- the section with the relocations of section t
abbrev pub part_note : List ℕ → ℕ → ℕ → Option ℕ
part_note b n t = part b t n

abbrev pub parts : List ℕ → List (Option ℕ)
parts b = map (part_note b (sections b)) (range_with_len 0 1024)

-- whether one of these numbers is a symbol that is defined in section s
abbrev pub listed_in : List ℕ → List Item → ℕ → Bool
listed_in b its s = lists b s its

abbrev pub marks : List ℕ → List Bool
marks b = map (listed_in b (listing b)) (range_with_len 0 1024)

-- the marks are noted where there is an address-significance table
abbrev pub marks_of : List ℕ → Option ℕ → Option (List Bool)
marks_of b None = None
marks_of b (Some a) = Some (marks b)

abbrev pub is_root : List ℕ → ℕ → Bool
is_root b i = root (section b i)

-- the roots, ascending
abbrev pub roots : List ℕ → List ℕ
roots b = filter (is_root b) (range_with_len 0 (sections b))

-- the roots that a list of them holds
abbrev pub told_roots : RootList → List ℕ
told_roots x = take x.count x.list

pub record Noted (b : List ℕ) (x : Notes) : Type 0 where
  pub symbols_right : x.symbols ≡ symbols b
  pub parts_right : x.parts ≡ parts b
  pub listed_right : x.listed ≡ marks_of b (significance b)
  pub roots_right : told_roots x.roots ≡ roots b
