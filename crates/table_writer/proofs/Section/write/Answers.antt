use Rattle.std.proofs.Common.{◌+◌, ◌≤◌, ◌++◌, length, sym, ◌∙◌, append_assoc, rules}
use Rattle.std.proofs.lemmas.Result.{err_from_is_err_and}
use Rattle.model.specs.Graph.{section_of}
use Rattle.row.specs.Entry.{render, section}
use Rattle.graph.specs.Bytes.{bytes_in, relocations_in}
use Rattle.table_writer.specs.Texts.{bytes_text, relocations_text}
use Rattle.pieces.proofs.Writing.{row_ok, row_err, restated, both_ok, both_err, both_end, first_ends, stopped_before}
use Rattle.table_writer.proofs.Texts.{section_told}
use Rattle.table_writer.proofs.Section.write.Goals as goal

pub returns-in_err-at : goal.returns-in_err-at
returns-in_err-at g c =
    let o = section_of (g.G.SectionGraph.graph c.args.self.now.graph.now) c.args.self.now.number in
    let parts = section_told c.args.self.now.number o c.args.self.now.info c.args.self.now.is_told in
    let p = err_from_is_err_and c.from_residual.result c.from_residual.ensures.1 in
    rw (p.1, p.2)
    (stopped_before (render (section c.args.self.now.number c.args.self.now.info)) (bytes_text (bytes_in o) ++ relocations_text (relocations_in o))
    (sym (append_assoc (render (section c.args.self.now.number c.args.self.now.info)) (bytes_text (bytes_in o)) (relocations_text (relocations_in o))) ∙ parts.0)
    (row_err c.write_section.ensures.answer c.write_section.ensures.text c.in_err-at.was))

pub slice_bounds-write_byte_rows-count : goal.slice_bounds-write_byte_rows-count
slice_bounds-write_byte_rows-count g c = first_ends (row_ok c.write_section.ensures.answer c.write_section.ensures.text c.in_ok-at.was)

pub slice_bounds-write_byte_rows-start : goal.slice_bounds-write_byte_rows-start
slice_bounds-write_byte_rows-start g c =
    let h : c.in_ok-at.at ≤ length c.write_section.new.out = first_ends (row_ok c.write_section.ensures.answer c.write_section.ensures.text c.in_ok-at.was) in
    search rules

pub returns-in_err-at-2 : goal.returns-in_err-at-2
returns-in_err-at-2 g c =
    let o = section_of (g.G.SectionGraph.graph c.args.self.now.graph.now) c.args.self.now.number in
    let parts = section_told c.args.self.now.number o c.args.self.now.info c.args.self.now.is_told in
    let one = row_ok c.write_section.ensures.answer c.write_section.ensures.text c.in_ok-at.was in
    let p = err_from_is_err_and c.from_residual-in_err-at-2.result c.from_residual-in_err-at-2.ensures.1 in
    rw (p.1, p.2) (stopped_before (render (section c.args.self.now.number c.args.self.now.info) ++ bytes_text (bytes_in o)) (relocations_text (relocations_in o)) parts.0 (both_err one c.write_byte_rows.ensures c.in_err-at-2.was))

pub overflow_add-at : goal.overflow_add-at
overflow_add-at g c =
    let one = row_ok c.write_section.ensures.answer c.write_section.ensures.text c.in_ok-at.was in
    let h : c.in_ok-at.at + c.in_ok-at-2.field-0 ≤ length c.write_section.new.out = both_end one c.write_byte_rows.ensures c.in_ok-at-2.was in
    search rules

pub slice_bounds-write_relocation_rows-count : goal.slice_bounds-write_relocation_rows-count
slice_bounds-write_relocation_rows-count g c =
    let one = row_ok c.write_section.ensures.answer c.write_section.ensures.text c.in_ok-at.was in
    first_ends (both_ok one c.write_byte_rows.ensures c.in_ok-at-2.was)

pub slice_bounds-write_relocation_rows-start : goal.slice_bounds-write_relocation_rows-start
slice_bounds-write_relocation_rows-start g c =
    let one = row_ok c.write_section.ensures.answer c.write_section.ensures.text c.in_ok-at.was in
    let h = first_ends (both_ok one c.write_byte_rows.ensures c.in_ok-at-2.was) in
    search rules

pub returns-in_err-at-3 : goal.returns-in_err-at-3
returns-in_err-at-3 g c =
    let o = section_of (g.G.SectionGraph.graph c.args.self.now.graph.now) c.args.self.now.number in
    let parts = section_told c.args.self.now.number o c.args.self.now.info c.args.self.now.is_told in
    let one = row_ok c.write_section.ensures.answer c.write_section.ensures.text c.in_ok-at.was in
    let two = both_ok one c.write_byte_rows.ensures c.in_ok-at-2.was in
    let p = err_from_is_err_and c.from_residual-in_err-at-3.result c.from_residual-in_err-at-3.ensures.1 in
    rw (p.1, p.2) (restated parts.0 (both_err two c.write_relocation_rows.ensures c.in_err-at-3.was))

pub overflow_add-at-2 : goal.overflow_add-at-2
overflow_add-at-2 g c =
    let one = row_ok c.write_section.ensures.answer c.write_section.ensures.text c.in_ok-at.was in
    let two = both_ok one c.write_byte_rows.ensures c.in_ok-at-2.was in
    let h = both_end two c.write_relocation_rows.ensures c.in_ok-at-3.was in
    search rules

pub returns : goal.returns
returns g c =
    let o = section_of (g.G.SectionGraph.graph c.args.self.now.graph.now) c.args.self.now.number in
    let parts = section_told c.args.self.now.number o c.args.self.now.info c.args.self.now.is_told in
    let one = row_ok c.write_section.ensures.answer c.write_section.ensures.text c.in_ok-at.was in
    let two = both_ok one c.write_byte_rows.ensures c.in_ok-at-2.was in
    restated parts.0 (both_ok two c.write_relocation_rows.ensures c.in_ok-at-3.was)
