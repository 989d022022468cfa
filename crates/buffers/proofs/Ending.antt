-- A sweep and a fold behind other calls are one list with them.
use Rattle.std.proofs.Common.{◌≡◌, List, [], ◌∷◌, ◌++◌, sym, refl}
use Rattle.calls.specs.declared.Call.{Call}
use Rattle.calls.specs.declared.Call.TheVariants.{Sweep, Fold}
use Rattle.runs.specs.State.{State, start, step, run}
use Rattle.buffers.specs.Outcome.{finished, EndsAfter}

run_append : (st : State) (cs more : List Call) → run st (cs ++ more) ≡ run (run st cs) more
run_append st [] more = refl
run_append st (c ∷ cs) more = run_append (step st c) cs more

pub ends_after : EndsAfter
unfolding finished
ends_after g calls = sym (run_append (start g) calls (Sweep ∷ Fold ∷ []))
