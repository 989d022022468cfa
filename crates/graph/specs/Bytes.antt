-- The bytes and the relocations of a section as lists, a digest of the bytes, and how many of both a record tells.
use Rattle.std.specs.Prelude.{ℕ, ◌*◌, ◌%◌, ◌^◌, List, [], ◌∷◌, Some, None, Option, bit_xor}
use Rattle.model.specs.declared.Relocation.{Relocation}
use Rattle.model.specs.declared.Record.{Record}
use Rattle.model.specs.Graph.{Body, Graph, section_of}

-- an absent section has none of either
abbrev pub bytes_in : Option Body → List ℕ
bytes_in None = []
bytes_in (Some b) = b.bytes

abbrev pub relocations_in : Option Body → List Relocation
relocations_in None = []
relocations_in (Some b) = b.relocations

abbrev pub bytes_of : Graph → ℕ → List ℕ
bytes_of g s = bytes_in (section_of g s)

-- a digest h with x mixed in; all that is ever used of it is that it is a function
unfoldable pub mixed : ℕ → ℕ → ℕ
mixed h x = (bit_xor h x * 1099511628211) % 2 ^ 64

-- one number after the other, from h on
abbrev pub digest_from : ℕ → List ℕ → ℕ
digest_from h [] = h
digest_from h (x ∷ xs) = digest_from (mixed h x) xs

abbrev pub digest : List ℕ → ℕ
digest xs = digest_from 14695981039346656037 xs

-- the size that a record tells, 0 of an absent section
abbrev pub told_size : Option Record → ℕ
told_size None = 0
told_size (Some r) = r.size

-- how many relocations a record tells, 0 of an absent section
abbrev pub told_count : Option Record → ℕ
told_count None = 0
told_count (Some r) = r.relocations
