use Rattle.std.proofs.Common.{vec_items}
use Rattle.table.specs.Answering.{digest_none}
use Rattle.table.proofs.held.reader.TableSectionGraph.byte_digest.Goals as goal

pub returns-in_default : goal.returns-in_default
returns-in_default c = digest_none c.args.s (vec_items c.args.self.now.text) c.args.self.now.starts.places c.args.self.now.fit c.in_default.ensures
