use Rattle.std.proofs.Common.{subst, ap, ◌∙◌, rules}
use Rattle.std.specs.List.{slice_get}
use Rattle.table_writer.specs.Texts.{root_row}
use Rattle.pieces.specs.Writes.{Writes, pieces}
use Rattle.table_writer.proofs.Texts.{roots_pieces}
use Rattle.table_writer.proofs.write_roots.Goals as goal

pub write_each-requires : goal.write_each-requires
write_each-requires g c =
    let ts = (g.G.SectionGraph.graph c.args.graph.now).roots in
    record { callable = λ k part low. tt; writes = (λ j. root_row (slice_get ts j), λ k old new answer e low. search rules) }

pub returns : goal.returns
returns g c =
    let ts = (g.G.SectionGraph.graph c.args.graph.now).roots in
    subst (λ t. Writes t c.args.out.now c.write_each.new.out c.write_each.result)
    (ap (pieces (λ j. root_row (slice_get ts j))) c.root_count.ensures ∙ roots_pieces ts)
    (c.write_each.ensures (λ j. root_row (slice_get ts j)) (λ k old new answer e low. search rules))
