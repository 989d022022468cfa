-- What a call does to a pile, from its inner table before and after it.
use Rattle.std.specs.Prelude.{◌≡◌, List, [], ◌∷◌, ◌++◌, None, Ok, Err, Result}
use Rattle.fault.specs.declared.Fault.{Fault}
use Rattle.model.specs.Graph.{Graph}
use Rattle.calls.specs.declared.Call.{Call}
use Rattle.calls.specs.declared.Answer.{Answer}
use Rattle.calls.specs.declared.Answer.TheVariants.{Refused}
use Rattle.runs.specs.State.{refusal, step, answer, after}
use Rattle.ledger.specs.declared.Ledger.{Ledger}
use Rattle.ledger.specs.Told.{told, Reachable, Kept}

-- some calls on a new pile over g led to the inner table, whichever they were
abbrev pub Sound : Graph → Ledger → Type 0
Sound g t = ∥ Reachable g t ∥₁

-- call c on a pile over g, with answer a: the state after it and the answer are as defined, calls that led to the inner table before it
-- give calls that lead to the one after it, and whatever calls led to the state before it, all is promised of the state after it
pub record Does (g : Graph) (t t' : Ledger) (c : Call) (a : Answer) : Type 0 where
  pub state : told g t' ≡ step (told g t) c
  pub answer : a ≡ answer (told g t) c
  pub reachable : Reachable g t → Reachable g t'
  pub promise : (calls : List Call) → told g t ≡ after g calls → Kept g (calls ++ c ∷ []) (told g t')

-- call c is not refused, or it is and does nothing but answer why
abbrev pub Checked : Graph → Ledger → Call → Result (Unit {0}) Fault → Type 0
Checked g t c (Ok _) = refusal (told g t) c ≡ None
Checked g t c (Err f) = Does g t t c (Refused f)
