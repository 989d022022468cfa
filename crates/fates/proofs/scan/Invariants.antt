use Rattle.std.specs.Slice.Iter.{chunks_rest, chunks_size}
use Rattle.fates.proofs.Scans.{Turn}
use Rattle.fates.proofs.scan.Given as goal

-- the rows so far are read
abbrev pub invariant-loop-k : goal.invariant-loop-k
invariant-loop-k l = Turn l.text l.k-iterator.count (chunks_rest l.k-iterator.iter) (chunks_size l.k-iterator.iter) l.low l.map.fates
