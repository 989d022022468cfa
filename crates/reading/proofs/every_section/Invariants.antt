use Rattle.std.proofs.Common.{◌≡◌, ℕ, List, None}
use Rattle.checklist.specs.Checks.{Check, first_fault, each}
use Rattle.elf.specs.declared.Header.{Header}
use Rattle.rules.specs.Pass.{AnswersBy}
use Rattle.rules.specs.Rules.{pass_rule}
use Rattle.reading.proofs.every_section.Given as goal

-- nothing was found so far
abbrev pub invariant-loop-i : goal.invariant-loop-i
invariant-loop-i g l =
    (cs : ℕ → Header → List Check) → AnswersBy (goal.F-post g l.rule) cs → first_fault (each (pass_rule cs l.headers.bytes.now) l.i) ≡ None
