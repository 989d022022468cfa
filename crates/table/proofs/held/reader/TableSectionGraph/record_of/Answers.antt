use Rattle.std.proofs.Common.{vec_items}
use Rattle.table.specs.Answering.{record_none}
use Rattle.table.proofs.held.reader.TableSectionGraph.record_of.Goals as goal

pub returns-in_err-rows : goal.returns-in_err-rows
returns-in_err-rows c = rw c.from_residual.ensures (record_none c.args.s (vec_items c.args.self.now.text) c.args.self.now.starts.places c.args.self.now.fit c.in_err-rows.ensures)
