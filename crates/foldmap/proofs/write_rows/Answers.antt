use Rattle.std.proofs.Common.{ℕ, List, subst, ap, rules}
use Rattle.runs.specs.State.{place_of}
use Rattle.ledger.specs.Told.{told}
use Rattle.pieces.specs.Writes.{Writes, pieces}
use Rattle.foldmap.specs.Map.{told_of, row_of}
use Rattle.foldmap.proofs.write_rows.Goals as goal

pub write_each-requires : goal.write_each-requires
write_each-requires g c =
    let st = told (g.G.SectionGraph.graph c.args.pile.now.below) c.args.pile.now.table in
    record { callable = λ k part low. tt; writes = (λ s. row_of s (told_of s (place_of st s)), λ k old new answer e low. search rules) }

pub returns : goal.returns
returns g c =
    let st = told (g.G.SectionGraph.graph c.args.pile.now.below) c.args.pile.now.table in
    let piece : ℕ → List ℕ = λ s. row_of s (told_of s (place_of st s)) in
    subst (λ t. Writes t c.args.out.now c.write_each.new.out c.write_each.result)
    (ap (pieces piece) c.count.ensures)
    (c.write_each.ensures piece (λ k old new answer e low. search rules))
