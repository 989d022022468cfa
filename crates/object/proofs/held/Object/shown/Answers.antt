use Rattle.std.proofs.Common.{vec_items, sym, ◌∙◌, arith}
use Rattle.object.proofs.Showing.{shown_seen, count_told}
use Rattle.object.proofs.held.Object.shown.Goals as goal

pub invariant_of-result : goal.invariant_of-result
invariant_of-result c =
    let b = vec_items c.args.self.now.file
    in let n = count_told b
    in record { seen = shown_seen b c.args.s c.section-header.result c.args.self.now.met (omega arith) c.section-header.ensures (sym c.is_present.ensures ∙ c.if-not-is_present.false) }
