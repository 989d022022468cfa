use Rattle.row.proofs.Bytes.{Counting}
use Rattle.row.proofs.byte_count.Given as goal

abbrev pub invariant-loop-count : goal.invariant-loop-count
invariant-loop-count l = Counting l.text l.count
