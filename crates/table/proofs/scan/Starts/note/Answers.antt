use Rattle.std.proofs.Common.{◌≤◌, length, Some, sym, arith}
use Rattle.std.proofs.lemmas.List.{set_past}
use Rattle.table.proofs.scan.Starts.note.Goals as goal

-- a number past the notes is not noted
pub returns-else-s-lt1024 : goal.returns-else-s-lt1024
returns-else-s-lt1024 c =
    let past : length c.args.self.now.places ≤ c.in-Section.number = omega arith in
    rw c.in-Section.is (sym (set_past c.args.self.now.places c.in-Section.number (Some c.args.at) past))
