use Rattle.std.proofs.Common.{ℕ, ◌≡◌, ◌+◌, ◌<◌, length, get_or, unwrap_or}
use Rattle.std.specs.List.{slice_get}
use Rattle.graph.specs.Bytes.{bytes_of}
use Rattle.table_writer.proofs.Section.write_byte_row.Given as goal

-- the row holds the bytes before place i
abbrev pub invariant-loop-i : goal.invariant-loop-i
invariant-loop-i g l =
    ((j : ℕ) → j < l.i → get_or l.row j 0 ≡ unwrap_or (slice_get (bytes_of (g.G.SectionGraph.graph l.self.graph.now) l.self.number) (l.start + j)) 0)
    × (length l.row ≡ 16)
