-- What a reader of tables means.
use Rattle.std.specs.Prelude.{ℕ, List, Some, None, vec_items, Option}
use Rattle.fault.specs.declared.Fault.{Fault}
use Rattle.model.specs.Graph.{Graph}
use Rattle.layout.specs.Reading.{graph_of}
use Rattle.table.specs.declared.held.Table.{Table}

-- the text that the reader holds
abbrev pub text_held : Table → List ℕ
text_held x = vec_items x.text

-- the section graph that it tells
abbrev pub graph_held : Table → Graph
graph_held x = graph_of (text_held x)

-- the text held after another was read: that one, unless it is refused
abbrev pub text_after : Option Fault → List ℕ → List ℕ → List ℕ
text_after None new old = new
text_after (Some f) new old = old
