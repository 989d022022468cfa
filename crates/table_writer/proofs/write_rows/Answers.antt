use Rattle.std.proofs.Common.{◌≤◌, ◌++◌, length, refl, sym, ◌∙◌, append_assoc, rules}
use Rattle.std.proofs.lemmas.Result.{err_from_is_err_and}
use Rattle.layout.specs.Layout.{present_count}
use Rattle.row.specs.Entry.{render, header, end}
use Rattle.table_writer.specs.Texts.{sections_text, roots_text}
use Rattle.pieces.proofs.Writing.{row_written, row_ok, row_err, restated, both_ok, both_err, both_end, first_ends, stopped_before, as_writes}
use Rattle.table_writer.proofs.Texts.{table_parts}
use Rattle.table_writer.proofs.write_rows.Goals as goal

pub returns-in_err-at : goal.returns-in_err-at
returns-in_err-at g c =
    let x = g.G.SectionGraph.graph c.args.graph.now in
    let parts = table_parts x c.count.result c.root_count.result (present_count x.sections) c.count.ensures c.root_count.ensures refl in
    let p = err_from_is_err_and c.from_residual.result c.from_residual.ensures.1 in
    rw (p.1, p.2) (stopped_before (render (header c.count.result c.root_count.result)) ((sections_text 0 x.sections ++ roots_text x.roots) ++ render (end (present_count x.sections)))
    (sym (append_assoc (render (header c.count.result c.root_count.result)) (sections_text 0 x.sections ++ roots_text x.roots) (render (end (present_count x.sections)))) ∙ parts)
    (row_err c.write_header.ensures.answer c.write_header.ensures.text c.in_err-at.was))

pub slice_bounds-write_body-count : goal.slice_bounds-write_body-count
slice_bounds-write_body-count g c =
    let one = row_ok c.write_header.ensures.answer c.write_header.ensures.text c.in_ok-at.was in
    first_ends one

pub slice_bounds-write_body-start : goal.slice_bounds-write_body-start
slice_bounds-write_body-start g c =
    let one = row_ok c.write_header.ensures.answer c.write_header.ensures.text c.in_ok-at.was in
    let h : c.in_ok-at.at ≤ length c.write_header.new.out = first_ends one in
    search rules

pub returns-in_err-at-2 : goal.returns-in_err-at-2
returns-in_err-at-2 g c =
    let x = g.G.SectionGraph.graph c.args.graph.now in
    let parts = table_parts x c.count.result c.root_count.result (present_count x.sections) c.count.ensures c.root_count.ensures refl in
    let one = row_ok c.write_header.ensures.answer c.write_header.ensures.text c.in_ok-at.was in
    let p = err_from_is_err_and c.from_residual-in_err-at-2.result c.from_residual-in_err-at-2.ensures.1 in
    rw (p.1, p.2) (stopped_before (render (header c.count.result c.root_count.result) ++ (sections_text 0 x.sections ++ roots_text x.roots)) (render (end (present_count x.sections))) parts
    (both_err one (as_writes c.write_body.ensures) c.in_err-at-2.was))

pub overflow_add-at : goal.overflow_add-at
overflow_add-at g c =
    let one = row_ok c.write_header.ensures.answer c.write_header.ensures.text c.in_ok-at.was in
    let h = both_end one (as_writes c.write_body.ensures) c.in_ok-at-2.was in
    search rules

pub slice_bounds-write_end-count : goal.slice_bounds-write_end-count
slice_bounds-write_end-count g c =
    let one = row_ok c.write_header.ensures.answer c.write_header.ensures.text c.in_ok-at.was in
    let two = both_ok one (as_writes c.write_body.ensures) c.in_ok-at-2.was in
    first_ends two

pub slice_bounds-write_end-start : goal.slice_bounds-write_end-start
slice_bounds-write_end-start g c =
    let one = row_ok c.write_header.ensures.answer c.write_header.ensures.text c.in_ok-at.was in
    let two = both_ok one (as_writes c.write_body.ensures) c.in_ok-at-2.was in
    let h = first_ends two in
    search rules

pub returns-in_err-at-3 : goal.returns-in_err-at-3
returns-in_err-at-3 g c =
    let x = g.G.SectionGraph.graph c.args.graph.now in
    let parts = table_parts x c.count.result c.root_count.result c.present.result c.count.ensures c.root_count.ensures c.present.ensures in
    let one = row_ok c.write_header.ensures.answer c.write_header.ensures.text c.in_ok-at.was in
    let two = both_ok one (as_writes c.write_body.ensures) c.in_ok-at-2.was in
    let last = row_written _ _ _ _ c.write_end.ensures.answer c.write_end.ensures.text in
    let p = err_from_is_err_and c.from_residual-in_err-at-3.result c.from_residual-in_err-at-3.ensures.1 in
    rw (p.1, p.2) (restated parts (both_err two last c.in_err-at-3.was))

pub overflow_add-at-2 : goal.overflow_add-at-2
overflow_add-at-2 g c =
    let one = row_ok c.write_header.ensures.answer c.write_header.ensures.text c.in_ok-at.was in
    let two = both_ok one (as_writes c.write_body.ensures) c.in_ok-at-2.was in
    let last = row_written _ _ _ _ c.write_end.ensures.answer c.write_end.ensures.text in
    let h = both_end two last c.in_ok-at-3.was in
    search rules

pub returns : goal.returns
returns g c =
    let x = g.G.SectionGraph.graph c.args.graph.now in
    let parts = table_parts x c.count.result c.root_count.result c.present.result c.count.ensures c.root_count.ensures c.present.ensures in
    let one = row_ok c.write_header.ensures.answer c.write_header.ensures.text c.in_ok-at.was in
    let two = both_ok one (as_writes c.write_body.ensures) c.in_ok-at-2.was in
    let last = row_written _ _ _ _ c.write_end.ensures.answer c.write_end.ensures.text in
    restated parts (both_ok two last c.in_ok-at-3.was)
