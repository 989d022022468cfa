-- What a reader means.
use Rattle.std.specs.Prelude.{ℕ, List, Some, None, vec_items, Option}
use Rattle.fault.specs.declared.Fault.{Fault}
use Rattle.model.specs.Graph.{Graph}
use Rattle.object.specs.declared.held.Object.{Object}
use Rattle.object.specs.Meaning.{meaning}

-- the bytes of the file that it holds
abbrev pub file_of : Object → List ℕ
file_of x = vec_items x.file

-- the section graph of that file; of no file it is the empty one
abbrev pub graph_of : Object → Graph
graph_of x = meaning (file_of x)

-- the file held after a reading: the one that was read, or, where it is refused, the one before
abbrev pub after : Option Fault → List ℕ → List ℕ → List ℕ
after None read before = read
after (Some f) read before = before
