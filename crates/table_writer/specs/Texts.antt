-- The parts of a table's text, and how long they are.
use Rattle.std.specs.Prelude.{ℕ, ◌*◌, List, [], length, take, drop, Some, None, Option}
use Rattle.std.specs.List.{flat_map}
use Rattle.model.specs.declared.Record.{Record}
use Rattle.model.specs.declared.Relocation.{Relocation}
use Rattle.model.specs.Graph.{Body}
use Rattle.row.specs.Entry.{render, bytes, relocation, root}
use Rattle.layout.specs.Layout.{with_bytes, with_relocations, with_section, with_sections, with_roots, relocation_place}

-- the row of the sixteen bytes from 16 * k on, or of those that are left
abbrev pub byte_row : List ℕ → ℕ → List ℕ
byte_row bs k = render (bytes (take 16 (drop (16 * k) bs)))

-- the row of a relocation or of a root that is there
abbrev pub relocation_row : Option Relocation → List ℕ
relocation_row None = []
relocation_row (Some r) = render (relocation r)

abbrev pub root_row : Option ℕ → List ℕ
root_row None = []
root_row (Some t) = render (root t)

-- the rows of some bytes, sixteen a row
unfoldable pub bytes_text : List ℕ → List ℕ
bytes_text bs = flat_map render (with_bytes (length bs) bs [])

unfoldable pub relocations_text : List Relocation → List ℕ
relocations_text rs = flat_map render (with_relocations rs [])

-- the rows of section s, if it is present
unfoldable pub section_text : ℕ → Option Body → List ℕ
section_text s None = []
section_text s (Some b) = flat_map render (with_section s b [])

-- the rows of the present sections, which are numbered from s
unfoldable pub sections_text : ℕ → List (Option Body) → List ℕ
sections_text s bs = flat_map render (with_sections s bs [])

unfoldable pub roots_text : List ℕ → List ℕ
roots_text ts = flat_map render (with_roots ts [])

-- how long the rows of a section are
abbrev pub record_length : Record → ℕ
record_length r = relocation_place r.size r.relocations
