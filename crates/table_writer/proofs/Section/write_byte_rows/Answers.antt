use Rattle.std.proofs.Common.{◌≡◌, length, subst, arith, rules}
use Rattle.model.specs.Graph.{section_of}
use Rattle.graph.specs.Bytes.{bytes_in}
use Rattle.table_writer.specs.Texts.{byte_row}
use Rattle.pieces.specs.Writes.{Writes}
use Rattle.table_writer.proofs.Texts.{bytes_pieces, section_told}
use Rattle.table_writer.proofs.Section.write_byte_rows.Goals as goal

pub write_each-requires : goal.write_each-requires
write_each-requires g c =
    let o = section_of (g.G.SectionGraph.graph c.args.self.now.graph.now) c.args.self.now.number in
    let bs = bytes_in o in
    record { callable = λ k part low. search rules; writes = (byte_row bs, λ k old new answer e low. search rules) }

pub returns : goal.returns
returns g c =
    let o = section_of (g.G.SectionGraph.graph c.args.self.now.graph.now) c.args.self.now.number in
    let bs = bytes_in o in
    let size : c.args.self.now.info.size ≡ length bs = (section_told c.args.self.now.number o c.args.self.now.info c.args.self.now.is_told).1 in
    subst (λ t. Writes t c.args.out.now c.write_each.new.out c.write_each.result)
    (bytes_pieces bs c.div_ceil.result (omega (arith, c.div_ceil.ensures, size)))
    (c.write_each.ensures (byte_row bs) (λ k old new answer e low. search rules))
