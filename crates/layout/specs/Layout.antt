-- The rows of a section graph in the order of a table, and the table's text.
use Rattle.std.specs.Prelude.{ℕ, zero, suc, ◌+◌, ◌*◌, ◌/◌, ◌^◌, ◌<◌, List, [], ◌∷◌, length, take, drop, Some, None, Option}
use Rattle.std.specs.List.{flat_map}
use Rattle.model.specs.declared.Relocation.{Relocation}
use Rattle.model.specs.Graph.{Body, Graph, record_in}
use Rattle.model.specs.Laws.{ValidWhere}
use Rattle.row.specs.Entry.{Entry, header, section, bytes, relocation, root, end, render}

-- the rows of some bytes, sixteen a row and the last the rest, and then further rows; `rows` bounds how many there are
abbrev pub with_bytes : (rows : ℕ) → List ℕ → List Entry → List Entry
with_bytes zero bs rest = rest
with_bytes (suc k) [] rest = rest
with_bytes (suc k) (b ∷ bs) rest = bytes (take 16 (b ∷ bs)) ∷ with_bytes k (drop 16 (b ∷ bs)) rest

abbrev pub with_relocations : List Relocation → List Entry → List Entry
with_relocations [] rest = rest
with_relocations (r ∷ rs) rest = relocation r ∷ with_relocations rs rest

-- the rows of section s: one for its record, then its bytes, then its relocations
abbrev pub with_section : ℕ → Body → List Entry → List Entry
with_section s b rest =
    section s (record_in b)
    ∷ with_bytes (length b.bytes) b.bytes (with_relocations b.relocations rest)

-- the rows of the present sections, which are numbered from s
abbrev pub with_sections : ℕ → List (Option Body) → List Entry → List Entry
with_sections s [] rest = rest
with_sections s (None ∷ bs) rest = with_sections (suc s) bs rest
with_sections s (Some b ∷ bs) rest = with_section s b (with_sections (suc s) bs rest)

abbrev pub with_roots : List ℕ → List Entry → List Entry
with_roots [] rest = rest
with_roots (t ∷ ts) rest = root t ∷ with_roots ts rest

abbrev pub present_count : List (Option Body) → ℕ
present_count [] = 0
present_count (None ∷ bs) = present_count bs
present_count (Some b ∷ bs) = suc (present_count bs)

-- the rows of a section graph
abbrev pub entries : Graph → List Entry
entries g =
    header (length g.sections) (length g.roots)
    ∷ with_sections 0 g.sections (with_roots g.roots (end (present_count g.sections) ∷ []))

-- the table of a section graph
abbrev pub text_of : Graph → List ℕ
text_of g = flat_map render (entries g)

-- how long the rows of n bytes are: four columns for each byte, and a letter and byte 10 for each sixteen
abbrev pub bytes_length : ℕ → ℕ
bytes_length n = 4 * n + 2 * ((n + 15) / 16)

-- where the row of relocation j of a section with n bytes is, from its first row on: behind that row, which is 74 long, the rows of
-- the bytes and j rows of 62; where j is the count of its relocations, how long its rows are
abbrev pub relocation_place : ℕ → ℕ → ℕ
relocation_place n j = 74 + (bytes_length n + 62 * j)

-- a number that a row may name a section by
abbrev pub Free : ℕ → Type 0
Free t = t < 2 ^ 16

-- the laws of a section graph, but that a relocation or a root may name any number: what a table's rows tell before it
-- is known which sections are present
abbrev pub Formed : Graph → Type 0
Formed g = ValidWhere Free g
