use Rattle.std.proofs.Common.{◌≡◌, drop}
use Rattle.lines.specs.Lines.{lines}
use Rattle.table.specs.Notes.{scan_from, scanned}
use Rattle.table.proofs.scan.scan.Given as goal

-- the rows that are left decide
abbrev pub invariant-loop-placed : goal.invariant-loop-placed
invariant-loop-placed l =
    (goal.iterator-loop-placed).can_next l.placed-iterator
    × (goal.iterator-loop-placed).is_finite l.placed-iterator
    × (l.placed-iterator.text.now ≡ l.text)
    × (scan_from l.placed-iterator.at (lines (drop l.placed-iterator.at l.text)) l.state l.starts.places ≡ scanned l.text)
