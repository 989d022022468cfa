-- What a pass over all sections asks of its rule.
use Rattle.std.specs.Prelude.{◌≡◌, ℕ, List, Result}
use Rattle.fault.specs.declared.Fault.{Fault}
use Rattle.checklist.specs.Checks.{Check, first_fault, answer}
use Rattle.elf.specs.declared.Header.{Header}
use Rattle.rules.specs.declared.Placed.{Placed}

-- a rule of a section, by what it may answer, answers by these checks
abbrev pub AnswersBy : (Placed → Result (Unit {0}) Fault → Type 0) → (ℕ → Header → List Check) → Type 0
AnswersBy answers checks =
    (s : Placed) (r : Result (Unit {0}) Fault) → answers s r → r ≡ answer (first_fault (checks s.place s.header)) tt
