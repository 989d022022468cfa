-- What a reader holds.
use Rattle.std.proofs.Common.{◌≡◌, ℕ, true, eqb, List, [], length, replicate, None, Ok, Err, IfOk, OnOk, Option, Result, refl, ap, ◌∙◌}
use Rattle.std.proofs.lemmas.Bool.{or_right}
use Rattle.std.proofs.lemmas.List.{length-replicate, get_or-replicate}
use Rattle.std.proofs.lemmas.List.FromFn.{fill_by_all}
use Rattle.field.specs.Fields.{half}
use Rattle.checklist.specs.Checks.{first_fault}
use Rattle.checklist.proofs.Checks.{accepts}
use Rattle.rules.specs.Notes.{part_note, parts}
use Rattle.fault.specs.declared.Fault.{Fault}
use Rattle.rules.specs.declared.Notes.{Notes}
use Rattle.rules.specs.Ending.{Ends}
use Rattle.rules.specs.Verdict.{checks, accepted}
use Rattle.model.specs.Graph.{empty}
use Rattle.model.specs.Laws.{Valid}
use Rattle.object.specs.Meaning.{meaning}
use Rattle.object.specs.Held.{held}
use Rattle.object.specs.Lawful.{lawful}

pub read_held : (b : List ℕ) → first_fault (checks b) ≡ None → held b ≡ true
read_held b e = or_right (eqb (length b) 0) (accepted b) (accepts (checks b) e)

pub ended_held : (b : List ℕ) (r : Result Notes Fault) → Ends b (checks b) r → IfOk r (λ x. held b ≡ true)
ended_held b (Ok x) w = read_held b w.0
ended_held b (Err f) w = tt

pub ended_lawful : (b : List ℕ) (r : Result Notes Fault) → Ends b (checks b) r → OnOk r (Valid (meaning b))
ended_lawful b (Ok x) w = lawful b (read_held b w.0)
ended_lawful b (Err f) w = tt

-- of no file

pub none_parted : replicate 1024 None ≡ parts []
unfolding half
none_parted = fill_by_all (part_note [] 0) (replicate 1024 None) 1024 None (length-replicate {A = Option ℕ} 1024 None) (λ k h. get_or-replicate {A = Option ℕ} 1024 k None None h)

pub none_held : (b : List ℕ) → b ≡ [] → held b ≡ true
none_held b e = ap held e

no_meaning : meaning [] ≡ empty
unfolding half
no_meaning = refl

pub none_means : (b : List ℕ) → b ≡ [] → meaning b ≡ empty
none_means b e = ap meaning e ∙ no_meaning
