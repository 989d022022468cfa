use Rattle.table.specs.Meaning.{text_held}
use Rattle.buffers.proofs.Files.{table_read}
use Rattle.buffers.proofs.read_table.Goals as goal

pub returns : goal.returns
returns c =
    table_read c.args.file.items (text_held c.new-table.result) (text_held c.read.new.self) c.requires c.in_ok-read.ensures.answer c.read.ensures.holds
