use Rattle.std.proofs.Common.{None, get_or, subst, ap, ◌∙◌, rules}
use Rattle.table_writer.specs.Texts.{section_text}
use Rattle.pieces.specs.Writes.{Writes, pieces}
use Rattle.table_writer.proofs.Texts.{sections_pieces}
use Rattle.table_writer.proofs.write_sections.Goals as goal

pub write_each-requires : goal.write_each-requires
write_each-requires g c =
    let bs = (g.G.SectionGraph.graph c.args.graph.now).sections in
    record { callable = λ k part low. tt; writes = (λ s. section_text s (get_or bs s None), λ k old new answer e low. search rules) }

pub returns : goal.returns
returns g c =
    let bs = (g.G.SectionGraph.graph c.args.graph.now).sections in
    subst (λ t. Writes t c.args.out.now c.write_each.new.out c.write_each.result)
    (ap (pieces (λ s. section_text s (get_or bs s None))) c.count.ensures ∙ sections_pieces bs)
    (c.write_each.ensures (λ s. section_text s (get_or bs s None)) (λ k old new answer e low. search rules))
