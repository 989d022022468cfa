-- A walk over the numbers below a bound, left at the first call that does not go on.
use Rattle.std.proofs.Common.{◌≡◌, ℕ, suc, ◌<◌, ◌≤◌, List, [], ◌∷◌, Some, None, Ok, Err, Option, Result, MatchOption, sym, refl, ap, subst, ◌∙◌, add-one, arith}
use denote.Param.Members.{Mut, Called}
use Rattle.fault.specs.declared.Fault.{Fault}
use Rattle.std.specs.declared.ops.ControlFlow.{ControlFlow}
use Rattle.std.specs.declared.ops.ControlFlow.TheVariants.{Continue, Break}
use Rattle.std.specs.declared.ops.Range.{Range}
use Rattle.std.specs.Iterator.{Yields, TryForEachTurn, TryCallsOnEach, TryFoldTurn, TryFoldsItems}
use Rattle.std.specs.List.{FoldsTo}
use Rattle.std.proofs.iter.Yields.{nat_range_steps}
use Rattle.checklist.specs.Checks.{Check, first_fault, each, answer}
use Rattle.checklist.proofs.Checks.{ok_none, err_some, each_more, each_found}

-- try_for_each, where the call at each number answers by its rule
module _ {F E : Type 0} {g : Mut F (ℕ × Unit {0}) (Result (Unit {0}) Fault)} (branches : Result (Unit {0}) Fault → ControlFlow E (Unit {0}) → Type 0)
    (resumes : E → Result (Unit {0}) Fault → Type 0) (rule : ℕ → List Check) (f : F)
    (goes : (v : Result (Unit {0}) Fault) → branches v (Continue tt) → v ≡ Ok tt)
    (stops : (v r : Result (Unit {0}) Fault) (e : E) → branches v (Break e) → resumes e r → (x : Fault) × (v ≡ Err x) × (r ≡ Err x))
    (known : (i : ℕ) (v : Result (Unit {0}) Fault) (q : F) → Called g f (i, tt) v q → (q ≡ f) × (v ≡ answer (first_fault (rule i)) tt)) where
  on : (xs : List ℕ) (s t : Range ℕ) (p q : F) → Yields nat_range_steps s xs t → FoldsTo (TryForEachTurn g branches) p xs q → p ≡ f
      → s.start ≤ s.end → first_fault (each rule s.start) ≡ None
      → (t.end ≡ s.end) × (t.start ≤ t.end) × (first_fault (each rule t.start) ≡ None) × (q ≡ f)
  on [] s t p q y d i l e = subst (λ (k : Range ℕ). (k.end ≡ s.end) × (k.start ≤ k.end) × (first_fault (each rule k.start) ≡ None) × (q ≡ f)) y (refl, l, e, sym d ∙ i)
  on (x ∷ xs) s t p q y d i l e =
      let call = known x d.1.0 d.0 (subst (λ (k : F). Called g k (x, tt) d.1.0 d.0) i d.1.1)
      in let none = ok_none (first_fault (rule x)) tt tt (sym (goes d.1.0 d.1.2) ∙ call.1)
      in let here = each_more rule s.start e (ap (λ (k : ℕ). first_fault (rule k)) (sym y.1.1.1) ∙ none.0)
      in let rest = on xs y.0 t d.0 q y.2 d.2 call.0 (omega (arith, y.1.0, y.1.1.0, y.1.1.2)) (subst (λ (k : ℕ). first_fault (each rule k) ≡ None) (sym y.1.1.2) here)
      in (rest.0 ∙ y.1.0, rest.1, rest.2, rest.3)

  pub walked : (s u : Range ℕ) (r : Result (Unit {0}) Fault) → s.start ≡ 0 → TryCallsOnEach nat_range_steps g branches resumes s f r u
      → r ≡ answer (first_fault (each rule s.end)) tt
  walked s u r z ran =
      let w = on ran.0 s ran.3.0 f ran.2 ran.3.1 ran.4 refl (omega arith) (subst (λ (k : ℕ). first_fault (each rule k) ≡ None) (sym z) refl)
      in go ran.1 ran.3.2 ran.5 w
    where
      go : (o : Option ℕ) → nat_range_steps ran.3.0 o u
          → MatchOption o (branches r (Continue tt)) (λ x. (v : Result (Unit {0}) Fault) × (h : F) × (e : E) × Called g ran.2 (x, tt) v h × branches v (Break e) × resumes e r)
          → (ran.3.0.end ≡ s.end) × (ran.3.0.start ≤ ran.3.0.end) × (first_fault (each rule ran.3.0.start) ≡ None) × (ran.2 ≡ f)
          → r ≡ answer (first_fault (each rule s.end)) tt
      go None y m w =
          let same : ran.3.0.start ≡ s.end = omega (arith, y.1.0, w.0, w.1)
          in goes r m ∙ sym (ap (λ (k : ℕ). answer (first_fault (each rule k)) tt) (sym same) ∙ ap (λ (o : Option Fault). answer o tt) w.2)
      go (Some x) y m w =
          let b = stops m.0 r m.2 m.4 m.5
          in let call = known x m.0 m.1 (subst (λ (k : F). Called g k (x, tt) m.0 m.1) w.3 m.3)
          in let found = err_some (first_fault (rule x)) b.0 tt (sym b.1 ∙ call.1)
          in let lt : ran.3.0.start < s.end = omega (arith, y.1.0, w.0)
          in b.2 ∙ sym (ap (λ (o : Option Fault). answer o tt) (each_found rule ran.3.0.start s.end b.0 lt w.2 (ap (λ (k : ℕ). first_fault (rule k)) (sym y.1.1) ∙ found)))

-- try_fold, where the call at each number answers by its rule, and goes on to the next of the states
module _ {F B E : Type 0} {g : Mut F (B × (ℕ × Unit {0})) (Result B Fault)} (branches : Result B Fault → ControlFlow E B → Type 0)
    (resumes : E → Result B Fault → Type 0) (rule : ℕ → List Check) (state : ℕ → B) (f : F)
    (goes : (v : Result B Fault) (x : B) → branches v (Continue x) → v ≡ Ok x)
    (stops : (v r : Result B Fault) (e : E) → branches v (Break e) → resumes e r → (x : Fault) × (v ≡ Err x) × (r ≡ Err x))
    (known : (i : ℕ) (v : Result B Fault) (q : F) → Called g f (state i, (i, tt)) v q → (q ≡ f) × (v ≡ answer (first_fault (rule i)) (state (suc i)))) where
  fold_on : (xs : List ℕ) (s t : Range ℕ) (p q : F × B) → Yields nat_range_steps s xs t → FoldsTo {P = F × B} (TryFoldTurn g branches) p xs q → p.0 ≡ f → p.1 ≡ state s.start
      → s.start ≤ s.end → first_fault (each rule s.start) ≡ None
      → (t.end ≡ s.end) × (t.start ≤ t.end) × (first_fault (each rule t.start) ≡ None) × (q.0 ≡ f) × (q.1 ≡ state t.start)
  fold_on [] s t p q y d i j l e =
      subst (λ (k : Range ℕ). (k.end ≡ s.end) × (k.start ≤ k.end) × (first_fault (each rule k.start) ≡ None) × (q.0 ≡ f) × (q.1 ≡ state k.start)) y
      (refl, l, e, ap (λ (k : F × B). k.0) (sym d) ∙ i, ap (λ (k : F × B). k.1) (sym d) ∙ j)
  fold_on (x ∷ xs) s t p q y d i j l e =
      let next : y.0.start ≡ suc s.start = y.1.1.2 ∙ add-one s.start
      in let at : p.1 ≡ state x = j ∙ ap state (sym y.1.1.1)
      in let call = known x d.1.0 d.0.0 (subst (λ (k : F). Called g k (state x, (x, tt)) d.1.0 d.0.0) i (subst (λ (k : B). Called g p.0 (k, (x, tt)) d.1.0 d.0.0) at d.1.1))
      in let none = ok_none (first_fault (rule x)) d.0.1 (state (suc x)) (sym (goes d.1.0 d.0.1 d.1.2) ∙ call.1)
      in let here = each_more rule s.start e (ap (λ (k : ℕ). first_fault (rule k)) (sym y.1.1.1) ∙ none.0)
      in let rest = fold_on xs y.0 t d.0 q y.2 d.2 call.0 (none.1 ∙ ap state (ap (λ (k : ℕ). suc k) y.1.1.1 ∙ sym next)) (omega (arith, y.1.0, y.1.1.0, y.1.1.2)) (subst (λ (k : ℕ). first_fault (each rule k) ≡ None) (sym y.1.1.2) here)
      in (rest.0 ∙ y.1.0, rest.1, rest.2, rest.3, rest.4)

  pub folded : (s u : Range ℕ) (init : B) (r : Result B Fault) → s.start ≡ 0 → init ≡ state 0 → TryFoldsItems nat_range_steps g branches resumes s f init r u
      → r ≡ answer (first_fault (each rule s.end)) (state s.end)
  folded s u init r z first ran =
      let w = fold_on ran.0 s ran.4.0 (f, init) (ran.2, ran.3) ran.4.1 ran.5 refl (first ∙ ap state (sym z)) (omega arith) (subst (λ (k : ℕ). first_fault (each rule k) ≡ None) (sym z) refl)
      in go ran.1 ran.4.2 ran.6 w
    where
      go : (o : Option ℕ) → nat_range_steps ran.4.0 o u
          → MatchOption o (branches r (Continue ran.3)) (λ x. (v : Result B Fault) × (h : F) × (e : E) × Called g ran.2 (ran.3, (x, tt)) v h × branches v (Break e) × resumes e r)
          → (ran.4.0.end ≡ s.end) × (ran.4.0.start ≤ ran.4.0.end) × (first_fault (each rule ran.4.0.start) ≡ None) × (ran.2 ≡ f) × (ran.3 ≡ state ran.4.0.start)
          → r ≡ answer (first_fault (each rule s.end)) (state s.end)
      go None y m w =
          let same : ran.4.0.start ≡ s.end = omega (arith, y.1.0, w.0, w.1)
          in goes r ran.3 m ∙ (ap Ok (w.4 ∙ ap state same) ∙ sym (ap (λ (o : Option Fault). answer o (state s.end)) (ap (λ (k : ℕ). first_fault (each rule k)) (sym same) ∙ w.2)))
      go (Some x) y m w =
          let b = stops m.0 r m.2 m.4 m.5
          in let at : ran.3 ≡ state x = w.4 ∙ ap state (sym y.1.1)
          in let call = known x m.0 m.1 (subst (λ (k : F). Called g k (state x, (x, tt)) m.0 m.1) w.3 (subst (λ (k : B). Called g ran.2 (k, (x, tt)) m.0 m.1) at m.3))
          in let found = err_some (first_fault (rule x)) b.0 (state (suc x)) (sym b.1 ∙ call.1)
          in let lt : ran.4.0.start < s.end = omega (arith, y.1.0, w.0)
          in b.2 ∙ sym (ap (λ (o : Option Fault). answer o (state s.end)) (each_found rule ran.4.0.start s.end b.0 lt w.2 (ap (λ (k : ℕ). first_fault (rule k)) (sym y.1.1) ∙ found)))

-- the same two, with what the library says of the calls as their first argument: the others are found from it
pub walk : {F E : Type 0} {g : Mut F (ℕ × Unit {0}) (Result (Unit {0}) Fault)} (branches : Result (Unit {0}) Fault → ControlFlow E (Unit {0}) → Type 0)
    (resumes : E → Result (Unit {0}) Fault → Type 0) {s u : Range ℕ} {f : F} {r : Result (Unit {0}) Fault}
    → TryCallsOnEach nat_range_steps g branches resumes s f r u → (rule : ℕ → List Check) → s.start ≡ 0
    → ((v : Result (Unit {0}) Fault) → branches v (Continue tt) → v ≡ Ok tt)
    → ((v r : Result (Unit {0}) Fault) (e : E) → branches v (Break e) → resumes e r → (x : Fault) × (v ≡ Err x) × (r ≡ Err x))
    → ((i : ℕ) (v : Result (Unit {0}) Fault) (q : F) → Called g f (i, tt) v q → (q ≡ f) × (v ≡ answer (first_fault (rule i)) tt))
    → r ≡ answer (first_fault (each rule s.end)) tt
walk branches resumes {s = s} {u = u} {f = f} {r = r} ran rule z goes stops known = walked branches resumes rule f goes stops known s u r z ran

pub walk_fold : {F B E : Type 0} {g : Mut F (B × (ℕ × Unit {0})) (Result B Fault)} (branches : Result B Fault → ControlFlow E B → Type 0)
    (resumes : E → Result B Fault → Type 0) {s u : Range ℕ} {f : F} {init : B} {r : Result B Fault}
    → TryFoldsItems nat_range_steps g branches resumes s f init r u → (rule : ℕ → List Check) (state : ℕ → B) → s.start ≡ 0 → init ≡ state 0
    → ((v : Result B Fault) (x : B) → branches v (Continue x) → v ≡ Ok x)
    → ((v r : Result B Fault) (e : E) → branches v (Break e) → resumes e r → (x : Fault) × (v ≡ Err x) × (r ≡ Err x))
    → ((i : ℕ) (v : Result B Fault) (q : F) → Called g f (state i, (i, tt)) v q → (q ≡ f) × (v ≡ answer (first_fault (rule i)) (state (suc i))))
    → r ≡ answer (first_fault (each rule s.end)) (state s.end)
walk_fold branches resumes {s = s} {u = u} {f = f} {init = init} {r = r} ran rule state z first goes stops known =
    folded branches resumes rule state f goes stops known s u init r z first ran
