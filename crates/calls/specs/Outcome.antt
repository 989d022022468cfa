-- What the result of a bind, pin or root answers.
use Rattle.std.specs.Prelude.{Ok, Err, Result}
use Rattle.fault.specs.declared.Fault.{Fault}
use Rattle.calls.specs.declared.Answer.{Answer}
use Rattle.calls.specs.declared.Answer.TheVariants.{Accepted, Refused}

-- the answer that the result of a bind, pin or root is
abbrev pub outcome : Result (Unit {0}) Fault → Answer
outcome (Ok _) = Accepted
outcome (Err f) = Refused f
