use Rattle.std.proofs.Common.{sym, ◌∙◌}
use Rattle.model.specs.Graph.{section_of}
use Rattle.pieces.proofs.Writing.{none_written, restated}
use Rattle.table_writer.proofs.Texts.{section_none}
use Rattle.table_writer.proofs.write_section_rows.Goals as goal

pub returns-in_default : goal.returns-in_default
returns-in_default g c =
    let o = section_of (g.G.SectionGraph.graph c.args.graph.now) c.args.s in
    restated (sym (section_none c.args.s o (sym c.record_of.ensures ∙ c.in_default.is))) (none_written c.args.out.now)
