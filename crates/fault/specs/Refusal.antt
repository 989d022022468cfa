-- What a refusal makes of an answer.
use Rattle.std.specs.Prelude.{Some, None, Ok, Err, Option, Result}
use Rattle.fault.specs.declared.Fault.{Fault}

-- an answer, unless it is refused
abbrev pub ok_unless : {A : Type 0} → Option Fault → A → Result A Fault
ok_unless None x = Ok x
ok_unless (Some f) x = Err f
