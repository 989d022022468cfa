-- Lists of checks: the laws of the verdict, and the steps of a loop that looks for the first fault.
use Rattle.std.proofs.Common.{◌≡◌, ℕ, zero, suc, ◌+◌, ◌<◌, Bool, true, false, cond, ◌&&◌, ◌⊎◌, List, [], ◌∷◌, ◌++◌, take, Some, None, Ok, Err, Option, refl, ◌∙◌, inl, inr, add-one, arith}
use Rattle.std.proofs.lemmas.Bool.{cases_eq, and_parts, and_from}
use Rattle.fault.specs.declared.Fault.{Fault}
use Rattle.checklist.specs.Checks.{Check, first_fault, all_hold, each, answer}
use Rattle.checklist.specs.Laws.{Breaks, Verdicts}

-- what the answers of a reader say of its verdict
pub ok_none : {A : Type 0} (o : Option Fault) (x y : A) → Ok x ≡ answer o y → (o ≡ None) × (x ≡ y)
ok_none None x y e = (refl, cc)
ok_none (Some f) x y e = let z : ◌≡◌ {A = ℕ} 0 1 = cc in absurd (omega arith)

pub err_some : {A : Type 0} (o : Option Fault) (f : Fault) (y : A) → Err f ≡ answer o y → o ≡ Some f
err_some None f y e = let z : ◌≡◌ {A = ℕ} 0 1 = cc in absurd (omega arith)
err_some (Some g) f y e = cc

-- one list after another
pub append_none : (cs ds : List Check) → first_fault cs ≡ None → first_fault (cs ++ ds) ≡ first_fault ds
append_none [] ds e = refl
append_none (c ∷ cs) ds e = go c.holds e (append_none cs ds)
  where
    go : (b : Bool) → cond b (first_fault cs) (Some c.fault) ≡ None → (first_fault cs ≡ None → first_fault (cs ++ ds) ≡ first_fault ds)
        → cond b (first_fault (cs ++ ds)) (Some c.fault) ≡ first_fault ds
    go true e' ih = ih e'
    go false e' ih = let z : ◌≡◌ {A = ℕ} 0 1 = cc in absurd (omega arith)

pub append_some : (cs ds : List Check) (f : Fault) → first_fault cs ≡ Some f → first_fault (cs ++ ds) ≡ Some f
append_some [] ds f e = let z : ◌≡◌ {A = ℕ} 0 1 = cc in absurd (omega arith)
append_some (c ∷ cs) ds f e = go c.holds e (append_some cs ds f)
  where
    go : (b : Bool) → cond b (first_fault cs) (Some c.fault) ≡ Some f → (first_fault cs ≡ Some f → first_fault (cs ++ ds) ≡ Some f)
        → cond b (first_fault (cs ++ ds)) (Some c.fault) ≡ Some f
    go true e' ih = ih e'
    go false e' ih = e'

pub append_both : (cs ds : List Check) → first_fault cs ≡ None → first_fault ds ≡ None → first_fault (cs ++ ds) ≡ None
append_both cs ds e f = append_none cs ds e ∙ f

-- the checks of each number, one number more
pub each_more : (f : ℕ → List Check) (i : ℕ) → first_fault (each f i) ≡ None → first_fault (f i) ≡ None → first_fault (each f (i + 1)) ≡ None
each_more f i e g = rw (add-one i) (append_both (each f i) (f i) e g)

-- the first fault of all is the first one found
pub each_found : (f : ℕ → List Check) (i n : ℕ) (x : Fault) → i < n → first_fault (each f i) ≡ None → first_fault (f i) ≡ Some x
    → first_fault (each f n) ≡ Some x
each_found f i zero x h e g = absurd (omega arith)
each_found f i (suc n) x h e g = go (cases_eq i n) (λ l. each_found f i n x l e g)
  where
    go : (i ≡ n) ⊎ (i ≡ n → ⊥) → (i < n → first_fault (each f n) ≡ Some x) → first_fault (each f n ++ f n) ≡ Some x
    go (inl q) ih = append_none (each f n) (f n) (rw q at e) ∙ rw q at g
    go (inr q) ih = append_some (each f n) (f n) x (ih (omega arith))

-- the laws

pub accepts : (cs : List Check) → first_fault cs ≡ None → all_hold cs ≡ true
accepts [] e = refl
accepts (c ∷ cs) e = go c.holds e (accepts cs)
  where
    go : (b : Bool) → cond b (first_fault cs) (Some c.fault) ≡ None → (first_fault cs ≡ None → all_hold cs ≡ true)
        → (b && all_hold cs) ≡ true
    go true e' ih = ih e'
    go false e' ih = let z : ◌≡◌ {A = ℕ} 0 1 = cc in absurd (omega arith)

pub passes : (cs : List Check) → all_hold cs ≡ true → first_fault cs ≡ None
passes [] e = refl
passes (c ∷ cs) e = go c.holds e (passes cs)
  where
    go : (b : Bool) → (b && all_hold cs) ≡ true → (all_hold cs ≡ true → first_fault cs ≡ None)
        → cond b (first_fault cs) (Some c.fault) ≡ None
    go true e' ih = ih e'
    go false e' ih = let z : ◌≡◌ {A = ℕ} 0 1 = cc in absurd (omega arith)

breaks : (cs : List Check) (f : Fault) → first_fault cs ≡ Some f → Breaks cs f
breaks [] f e = let z : ◌≡◌ {A = ℕ} 0 1 = cc in absurd (omega arith)
breaks (c ∷ cs) f e = go c.holds refl e (breaks cs f)
  where
    go : (b : Bool) → c.holds ≡ b → cond b (first_fault cs) (Some c.fault) ≡ Some f → (first_fault cs ≡ Some f → Breaks cs f)
        → Breaks (c ∷ cs) f
    go true h e' ih = let r = ih e' in (suc r.0, r.1, r.2, r.3, r.4, and_from c.holds (all_hold (take r.0 cs)) h r.5)
    go false h e' ih = (0, c, refl, h, cc, refl)

pub verdict : Verdicts
verdict cs = record { accepted = accepts cs; lets_pass = passes cs; refused = breaks cs }

-- what is known where all checks hold

pub hold_left : (cs ds : List Check) → all_hold (cs ++ ds) ≡ true → all_hold cs ≡ true
hold_left [] ds e = refl
hold_left (c ∷ cs) ds e =
    let p = and_parts c.holds (all_hold (cs ++ ds)) e in and_from c.holds (all_hold cs) p.0 (hold_left cs ds p.1)

pub hold_right : (cs ds : List Check) → all_hold (cs ++ ds) ≡ true → all_hold ds ≡ true
hold_right [] ds e = e
hold_right (c ∷ cs) ds e = hold_right cs ds (and_parts c.holds (all_hold (cs ++ ds)) e).1

pub hold_each : (f : ℕ → List Check) (n i : ℕ) → i < n → all_hold (each f n) ≡ true → all_hold (f i) ≡ true
hold_each f zero i h e = absurd (omega arith)
hold_each f (suc n) i h e = go (cases_eq i n) (λ l. hold_each f n i l (hold_left (each f n) (f n) e))
  where
    go : (i ≡ n) ⊎ (i ≡ n → ⊥) → (i < n → all_hold (f i) ≡ true) → all_hold (f i) ≡ true
    go (inl q) ih = rw q (hold_right (each f n) (f n) e)
    go (inr q) ih = ih (omega arith)

-- the answer of a reader, from its verdict
pub answer_some : {A : Type 0} (o : Option Fault) (f : Fault) (x : A) → o ≡ Some f → Err f ≡ answer o x
answer_some o f x e = rw e

pub answer_none : {A : Type 0} (o : Option Fault) (x : A) → o ≡ None → Ok x ≡ answer o x
answer_none o x e = rw e
