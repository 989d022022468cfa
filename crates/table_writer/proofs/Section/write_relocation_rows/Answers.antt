use Rattle.std.proofs.Common.{subst, ap, ◌∙◌, rules}
use Rattle.model.specs.Graph.{section_of, told_relocation}
use Rattle.table_writer.specs.Texts.{relocation_row}
use Rattle.pieces.specs.Writes.{Writes, pieces}
use Rattle.table_writer.proofs.Texts.{relocations_pieces, section_told}
use Rattle.table_writer.proofs.Section.write_relocation_rows.Goals as goal

pub write_each-requires : goal.write_each-requires
write_each-requires g c =
    let o = section_of (g.G.SectionGraph.graph c.args.self.now.graph.now) c.args.self.now.number in
    record { callable = λ k part low. tt; writes = (λ j. relocation_row (told_relocation o j), λ k old new answer e low. search rules) }

pub returns : goal.returns
returns g c =
    let o = section_of (g.G.SectionGraph.graph c.args.self.now.graph.now) c.args.self.now.number in
    subst (λ t. Writes t c.args.out.now c.write_each.new.out c.write_each.result)
    (ap (pieces (λ j. relocation_row (told_relocation o j))) (section_told c.args.self.now.number o c.args.self.now.info c.args.self.now.is_told).2 ∙ relocations_pieces o)
    (c.write_each.ensures (λ j. relocation_row (told_relocation o j)) (λ k old new answer e low. search rules))
