use Rattle.std.proofs.Common.{ℕ, List, Ok}
use Rattle.pieces.specs.Writes.{Writes, pieces, EachWrites}
use Rattle.pieces.proofs.write_each.Given as goal

-- the pieces before k are written
abbrev pub invariant-loop-k : goal.invariant-loop-k
invariant-loop-k g l =
    (piece : ℕ → List ℕ) → EachWrites (goal.F-post g l.write) l.count piece → Writes (pieces piece l.k) l.initial.out l.out (Ok l.at)
