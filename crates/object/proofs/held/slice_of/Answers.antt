use Rattle.std.proofs.Common.{ℕ, ◌+◌, ◌-◌, ◌≡◌, take, drop, ap, ◌∙◌, arith}
use Rattle.object.proofs.Showing.{slice_low}
use Rattle.object.proofs.held.slice_of.Goals as goal

pub returns : goal.returns
returns c =
    let n : c.args.from + c.args.size - c.args.from ≡ c.args.size = omega arith
    in ap (λ (k : ℕ). take k (drop c.args.from c.args.file.now)) n ∙ slice_low c.args.file.now c.args.from c.args.size (λ k. (c.type_inv.file k).fits)
