-- What the verdict on a text says in terms of section graphs and their tables.
use Rattle.std.specs.Prelude.{◌≡◌, ℕ, suc, ◌<◌, ◌≤◌, true, false, List, [], length, take, Some, None, ◌≢◌, slice_index_or}
use Rattle.model.specs.Graph.{Graph, empty}
use Rattle.model.specs.Laws.{Valid}
use Rattle.lines.specs.Lines.{lines, row_start}
use Rattle.row.specs.Reading.{read_row}
use Rattle.layout.specs.Layout.{text_of, Formed}
use Rattle.layout.specs.Reading.{bad_row, graph_of, dangles, fault_of, dangling_at}

pub record Verdict (t : List ℕ) : Type 0 where
  -- an accepted text is the table of the graph that it tells, and that graph keeps the laws
  pub accepted : fault_of t ≡ None → Valid (graph_of t) × (t ≡ text_of (graph_of t))
  -- the table of a graph that keeps the laws is accepted, and tells that graph
  pub table : (g : Graph) → Valid g → t ≡ text_of g → (fault_of t ≡ None) × (graph_of t ≡ g)
  -- no table agrees with the text through the end of the row that does not form
  pub bad : (k : ℕ) → bad_row t ≡ Some k → (g : Graph) → Formed g
      → take (suc k) (lines t) ≢ take (suc k) (lines (text_of g))
  -- a text that agrees with some table on its first rows is not refused for one of these
  pub not_before : (j k : ℕ) (g : Graph) → Formed g → take j (lines t) ≡ take j (lines (text_of g))
      → bad_row t ≡ Some k → j ≤ k
  -- where a section is missing, the row at that place names one that is absent, and no row before it does
  pub dangling : (p : ℕ) → bad_row t ≡ None → fault_of t ≡ Some (dangling_at p)
      → (k : ℕ) × (p ≡ row_start (lines t) k) × (dangles (graph_of t) (read_row (slice_index_or (lines t) k [])) ≡ true)
      × ((j : ℕ) → j < k → dangles (graph_of t) (read_row (slice_index_or (lines t) j [])) ≡ false)

-- graphs with the same table are the same
abbrev pub ToldApart : Type 0
ToldApart = (g h : Graph) → Valid g → Valid h → text_of g ≡ text_of h → g ≡ h

-- the table of the empty graph has 40 bytes
abbrev pub EmptyTable : Type 0
EmptyTable = length (text_of empty) ≡ 40
