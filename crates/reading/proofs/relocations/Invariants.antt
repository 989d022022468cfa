use Rattle.reading.proofs.Turns.{Between, Within}
use Rattle.reading.proofs.relocations.Given as goal

-- nothing was found so far, and the parts below i are noted
abbrev pub invariant-reading : goal.invariant-reading
invariant-reading l = Between l.object.tables.headers.bytes.now l.i l.refused l.parts

-- the same within the entries of a part
abbrev pub invariant-loop-j : goal.invariant-loop-j
invariant-loop-j l = Within l.object.tables.headers.bytes.now l.i l.refused l.parts l.part l.j
