use Rattle.std.proofs.Common.{◌≡◌, ◌≤◌, length, filter}
use Rattle.std.specs.List.{range_with_len}
use Rattle.rules.specs.Notes.{is_root, told_roots}
use Rattle.reading.proofs.roots.Given as goal

-- the roots below i
abbrev pub invariant-loop-i : goal.invariant-loop-i
invariant-loop-i l = (length (told_roots l.found) ≤ l.i) × (told_roots l.found ≡ filter (is_root l.headers.bytes.now) (range_with_len 0 l.i))
