use Rattle.object.specs.Reader.{file_of}
use Rattle.buffers.proofs.Files.{object_read}
use Rattle.buffers.proofs.read_object.Goals as goal

pub returns : goal.returns
returns c =
    object_read c.args.file.items (file_of c.new-object.result) (file_of c.read.new.self) c.requires c.in_ok-read.ensures.verdict c.read.ensures.holds
