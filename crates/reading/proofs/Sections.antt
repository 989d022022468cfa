-- What was found of one section in a pass.
use Rattle.std.proofs.Common.{◌≡◌, ℕ, List, Option, sym, ap, ◌∙◌}
use Rattle.fault.specs.declared.Fault.{Fault}
use Rattle.checklist.specs.Checks.{Check, first_fault}
use Rattle.elf.specs.declared.Header.{Header}
use Rattle.elf.specs.Layout.{place, section}
use Rattle.rules.specs.Rules.{pass_rule}

pub pass_found : (cs : ℕ → Header → List Check) (b : List ℕ) (i p : ℕ) (h : Header) (o : Option Fault) → p ≡ place b i → h ≡ section b i
    → first_fault (cs p h) ≡ o → first_fault (pass_rule cs b i) ≡ o
pass_found cs b i p h o q s e =
    ap (λ (x : ℕ). first_fault (cs x (section b i))) (sym q) ∙ (ap (λ (x : Header). first_fault (cs p x)) (sym s) ∙ e)
