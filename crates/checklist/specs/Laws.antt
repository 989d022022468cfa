-- What the verdict of a list of checks tells.
use Rattle.std.specs.Prelude.{◌≡◌, ℕ, true, false, List, take, Some, None}
use Rattle.std.specs.List.{slice_get}
use Rattle.fault.specs.declared.Fault.{Fault}
use Rattle.checklist.specs.Checks.{Check, first_fault, all_hold}

-- a check with this refusal that does not hold, where all before it do
abbrev pub Breaks : List Check → Fault → Type 0
Breaks cs f =
    (k : ℕ) × (c : Check) × (slice_get cs k ≡ Some c) × (c.holds ≡ false) × (c.fault ≡ f) × (all_hold (take k cs) ≡ true)

pub record Verdict (cs : List Check) : Type 0 where
  -- nothing is refused exactly where every check holds
  pub accepted : first_fault cs ≡ None → all_hold cs ≡ true
  pub lets_pass : all_hold cs ≡ true → first_fault cs ≡ None
  -- a refusal is that of the first check that does not hold
  pub refused : (f : Fault) → first_fault cs ≡ Some f → Breaks cs f

abbrev pub Verdicts : Type 0
Verdicts = (cs : List Check) → Verdict cs
