use Rattle.std.proofs.Common.{◌≡◌, ◌*◌, ◌+◌, ◌<◌, length, unwrap_or, subst, ap, refl, ◌∙◌, arith}
use Rattle.std.specs.List.{slice_get}
use Rattle.std.proofs.lemmas.List.{length-set}
use Rattle.model.specs.Graph.{section_of}
use Rattle.row.specs.Entry.{render, bytes}
use Rattle.graph.specs.Bytes.{bytes_in}
use Rattle.graph.proofs.Told.{byte_nth}
use Rattle.pieces.specs.Writes.{Writes}
use Rattle.pieces.proofs.Writing.{row_written}
use Rattle.table_writer.proofs.Texts.{row_more, row_gathered, section_told}
use Rattle.table_writer.proofs.Section.write_byte_row.Goals as goal

pub loop-i-init : goal.loop-i-init
loop-i-init g c = (λ j low. absurd (omega arith), refl)

pub loop-i-preserved : goal.loop-i-preserved
loop-i-preserved g c =
    let o = section_of (g.G.SectionGraph.graph c.args.self.now.graph.now) c.args.self.now.number in
    let inside : c.loop-i.i < length c.loop-i.row = omega (arith, c.loop-i-test.true, c.min-count.ensures, c.loop-i.invariant.1) in
    rw c.from.ensures (
      row_more (λ j. unwrap_or (slice_get (bytes_in o) (16 * c.args.k + j)) 0) c.loop-i.row c.loop-i.i c.unwrap_or.result inside
          (c.unwrap_or.ensures ∙ ap (λ x. unwrap_or x 0) (c.byte.ensures ∙ byte_nth o (16 * c.args.k + c.loop-i.i))) c.loop-i.invariant.0,
      length-set c.loop-i.row c.loop-i.i c.unwrap_or.result ∙ c.loop-i.invariant.1,
    )

pub returns : goal.returns
returns g c =
    let o = section_of (g.G.SectionGraph.graph c.args.self.now.graph.now) c.args.self.now.number in
    let size : c.args.self.now.info.size ≡ length (bytes_in o) = (section_told c.args.self.now.number o c.args.self.now.info c.args.self.now.is_told).1 in
    let taken =
    row_gathered (bytes_in o) c.loop-i.row (16 * c.args.k) c.from-2.result (omega (arith, c.from-2.ensures, c.min-count.ensures, size)) c.from-2.array_long
    (λ j low. c.loop-i.invariant.0 j (omega (arith, c.from-2.ensures, c.loop-i-test.false))) in
    subst (λ row. Writes (render (bytes row)) c.args.out.now c.write_bytes.new.out c.write_bytes.result) taken
    (row_written _ _ _ _ c.write_bytes.ensures.answer c.write_bytes.ensures.text)
