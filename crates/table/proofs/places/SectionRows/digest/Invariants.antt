use Rattle.std.proofs.Common.{◌≡◌, ℕ, List, drop}
use Rattle.graph.specs.Bytes.{digest_from, digest}
use Rattle.table.specs.Places.{Tells}
use Rattle.table.proofs.places.SectionRows.digest.Given as goal

abbrev pub invariant-loop-i : goal.invariant-loop-i
invariant-loop-i l = (bs : List ℕ) → Tells l.self.text.now bs → digest_from l.digest (drop l.i bs) ≡ digest bs
