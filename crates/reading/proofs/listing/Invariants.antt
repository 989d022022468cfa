use Rattle.reading.proofs.Scan.{Scanned}
use Rattle.reading.proofs.listing.Given as goal

-- what was read and what is left tell all
abbrev pub invariant-loop-i : goal.invariant-loop-i
invariant-loop-i l = Scanned l.symbols.bytes.now l.base l.bytes l.i l.begun l.marks
