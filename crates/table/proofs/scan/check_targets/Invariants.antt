use Rattle.std.proofs.Common.{◌≡◌, drop}
use Rattle.lines.specs.Lines.{lines}
use Rattle.table.specs.Notes.{targets_from}
use Rattle.table.proofs.scan.check_targets.Given as goal

-- the rows that are left decide
abbrev pub invariant-loop-placed : goal.invariant-loop-placed
invariant-loop-placed l =
    (goal.iterator-loop-placed).can_next l.placed-iterator
    × (goal.iterator-loop-placed).is_finite l.placed-iterator
    × (l.placed-iterator.text.now ≡ l.text)
    × (targets_from l.starts.places l.placed-iterator.at (lines (drop l.placed-iterator.at l.text)) ≡ targets_from l.starts.places 0 (lines l.text))
