-- The same in numbers: calls and replies as callers in other languages have them.
use Rattle.std.specs.Prelude.{ℕ, cond, List, Some, None, Option, is_none, filter_map, position, ◌==◌}
use Rattle.fault.specs.declared.Fault.{Fault}
use Rattle.fault.specs.Numbers.{kind_number, layer_number}
use Rattle.row_writer.specs.Writing.{over}
use Rattle.calls.specs.declared.Call.{Call}
use Rattle.calls.specs.declared.Call.TheVariants.{Bind, Pin, Root, Sweep, Fold}
use Rattle.buffers.specs.declared.Done.{Done}
use Rattle.buffers.specs.declared.Reply.{Reply}
use Rattle.buffers.specs.declared.Reply.TheVariants.{Written, Short, Refused}
use Rattle.buffers.specs.declared.plain.Status.{Status}
use Rattle.buffers.specs.declared.plain.Status.TheVariants.{Written as IsWritten, Refused as IsRefused, NoMemory, UnknownCall}
use Rattle.buffers.specs.declared.plain.PlainCall.{PlainCall}
use Rattle.buffers.specs.declared.plain.PlainReply.{PlainReply}
use Rattle.buffers.specs.Outcome.{reply_of}

-- the calls

-- the call that a kind and two numbers tell, if they tell one; a number that the call does not take is not looked at
abbrev pub call_told : PlainCall → Option Call
call_told c =
    cond (c.kind == 1) (Some (Bind c.first c.second))
    (cond (c.kind == 2) (Some (Pin c.first))
    (cond (c.kind == 3) (Some (Root c.first))
    (cond (c.kind == 4) (Some Sweep)
    (cond (c.kind == 5) (Some Fold) None))))

abbrev pub calls_told : List PlainCall → List Call
calls_told cs = filter_map call_told cs

-- the index of the first that tells no call
abbrev pub unknown_at : List PlainCall → Option ℕ
unknown_at cs = position (λ c. is_none (call_told c)) cs

-- the replies

abbrev pub status_number : Status → ℕ
status_number IsWritten = 0
status_number IsRefused = 1
status_number NoMemory = 2
status_number UnknownCall = 3

abbrev pub nothing : Done
nothing = record { table = 0; map = 0; present = 0; dropped = 0; merged = 0; rounds = 0 }

-- a reply with no refusal
abbrev pub unrefused : Status → ℕ → Done → PlainReply
unrefused s place d =
    record {
      status = status_number s;
      number = 0;
      place = place;
      layer = 0;
      present = d.present;
      dropped = d.dropped;
      merged = d.merged;
      rounds = d.rounds;
      table = d.table;
      map = d.map;
    }

-- a reply with one
abbrev pub refused : Fault → Done → PlainReply
refused f d =
    record (unrefused IsRefused f.place d) { number = kind_number f.kind; layer = layer_number f.layer }

unfoldable pub numbers_of : Reply → PlainReply
numbers_of (Written d) = unrefused IsWritten 0 d
numbers_of (Short f d) = refused f d
numbers_of (Refused f) = refused f nothing

-- the reply for want of memory
abbrev pub no_memory : PlainReply
no_memory = unrefused NoMemory 0 nothing

abbrev pub unless_unknown : Option ℕ → PlainReply → PlainReply
unless_unknown None r = r
unless_unknown (Some k) r = unrefused UnknownCall k nothing

-- what is answered of a file and calls, where memory suffices: the first that is no call, with its index as the place, or the reply in
-- numbers
abbrev pub plain_reply_of : List ℕ → List PlainCall → ℕ → ℕ → PlainReply
plain_reply_of file calls table_room map_room =
    unless_unknown (unknown_at calls) (numbers_of (reply_of file (calls_told calls) table_room map_room))

-- what a buffer holds then: the text over its front if the status says that it is written, and else what it held
unfoldable pub put_where : PlainReply → List ℕ → List ℕ → List ℕ
put_where r text b = cond (r.status == 0) (over text b) b
