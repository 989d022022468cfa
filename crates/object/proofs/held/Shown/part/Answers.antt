use Rattle.std.proofs.Common.{vec_items, rules}
use Rattle.object.proofs.Showing.{part_below}
use Rattle.object.proofs.held.Shown.part.Goals as goal

pub section-requires : goal.section-requires
section-requires c =
    let x = c.args.self.now.object.now
    in let q = part_below (vec_items x.file) x.notes c.args.self.now.number x.noted c.args.self.now.seen.few
    in search rules
