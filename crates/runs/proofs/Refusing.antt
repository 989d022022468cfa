-- When each refusal comes, and what follows from the calls that are not refused.
use Rattle.std.proofs.Common.{◌≡◌, ℕ, ◌+◌, ◌<◌, ◌≤◌, Bool, true, false, not, ◌||◌, eqb, leb, ◌⊎◌, List, [], ◌∷◌, ◌++◌, length, Some, None, Option, sym, refl, ap, ◌∙◌, subst, ⊎_elim, arith}
use Rattle.std.proofs.lemmas.Bool.{cases_Bool, eq-eqb, eqb-true, le-leb, lt-leb, or_left, or_right, or_from, or_cases}
use Rattle.std.proofs.lemmas.List.{append-nil, append_assoc, length-append}
use Rattle.std.proofs.Math.Bool.{or_assoc, or-false, or-true}
use Rattle.fault.specs.declared.Fault.{Fault}
use Rattle.model.specs.Graph.{Present, root_count_of}
use Rattle.unfolding.specs.Groups.{present}
use Rattle.unfolding.specs.Reach.{has}
use Rattle.calls.specs.declared.Call.{Call}
use Rattle.calls.specs.declared.Call.TheVariants.{Bind, Pin, Root, Sweep, Fold}
use Rattle.runs.specs.Drawn.{drawn_by}
use Rattle.runs.specs.State.{State, start, missing, roots_full, refusal, moved, unless, step, refused_or, answered, run}
use Rattle.runs.specs.Promise.{is_sweep, is_fold, some_call}
use Rattle.runs.specs.Laws.{Among, here, later, Refuses, unless_refused, accepted, drawn_all, name_in, names_in, root_in, roots_in, RunFollows}

-- the names that were bound

among_has : {e : ℕ} {xs : List ℕ} → Among e xs → has xs e ≡ true
among_has {e} {xs} (here {xs = ys}) = or_left (eqb e e) (has ys e) (eq-eqb e e refl)
among_has {e} {xs} (later {x = x} {xs = ys} h) = or_right (eqb x e) (has ys e) (among_has h)

has_among : (e : ℕ) (xs : List ℕ) → has xs e ≡ true → Among e xs
has_among e [] h =
    let z : ◌≡◌ {A = ℕ} 0 1 = cc in
    absurd (omega arith)
has_among e (x ∷ xs) h =
    ⊎_elim
    (λ p. subst (λ (y : ℕ). Among e (y ∷ xs)) (sym (eqb-true x e p)) here)
    (λ p. later (has_among e xs p))
    (or_cases (eqb x e) (has xs e) h)

not_has : (e : ℕ) (xs : List ℕ) → (Among e xs → ⊥) → has xs e ≡ false
not_has e xs h = ⊎_elim (λ p. absurd (h (has_among e xs p))) (λ p. p) (cases_Bool (has xs e))

-- the sections that there are

there : (st : State) (s : ℕ) → Present st.drawn s → missing st s ≡ false
there st s p = rw p

not_there : (st : State) (s : ℕ) → (Present st.drawn s → ⊥) → missing st s ≡ true
not_there st s h = ⊎_elim (λ p. absurd (h p)) (λ (p : present st.drawn s ≡ false). ap not p) (cases_Bool (present st.drawn s))

pub refuses : Refuses
refuses st =
    record {
      bind_closed = λ e s c. rw c;
      bind_missing = λ e s c p. rw (c, not_there st s p);
      bind_bound = λ e s c p b. rw (c, there st s p, among_has b);
      bind_full = λ e s c p b f. rw (c, there st s p, not_has e st.bound b, le-leb 64 (length st.bound) f);
      bind_accepted = λ e s c p b f. rw (c, there st s p, not_has e st.bound b, lt-leb 64 (length st.bound) f);
      pin_closed = λ s c. rw c;
      pin_missing = λ s c p. rw (c, not_there st s p);
      pin_accepted = λ s c p. rw (c, there st s p);
      root_closed = λ s c. rw c;
      root_missing = λ s c p. rw (c, not_there st s p);
      root_full = λ s c p f. rw (c, there st s p, roots_are_full f);
      root_accepted = λ s c p a r. rw (c, there st s p, roots_have_room a r);
      sweep_accepted = refl;
      fold_accepted = refl;
      told_closed = record { number = refl; place = refl; layer = refl };
      told_no_section = λ s. record { number = refl; place = refl; layer = refl };
      told_bound = λ e. record { number = refl; place = refl; layer = refl };
      told_full = record { number = refl; place = refl; layer = refl };
      alters_nothing = λ c f h. ap (λ (o : Option Fault). unless o st (moved st c)) h;
      answers_fault = λ c f h. ap (λ (o : Option Fault). refused_or o (answered st c)) h;
    }
  where
    roots_are_full : (64 ≤ st.added) ⊎ (4096 ≤ root_count_of st.drawn) → roots_full st ≡ true
    roots_are_full f =
        ⊎_elim
        (λ h. or_left (leb 64 st.added) (leb 4096 (root_count_of st.drawn)) (le-leb 64 st.added h))
        (λ h. or_right (leb 64 st.added) (leb 4096 (root_count_of st.drawn)) (le-leb 4096 (root_count_of st.drawn) h))
        f

    roots_have_room : st.added < 64 → root_count_of st.drawn < 4096 → roots_full st ≡ false
    roots_have_room a r =
        or_from
        (leb 64 st.added)
        (leb 4096 (root_count_of st.drawn))
        (lt-leb 64 st.added a)
        (lt-leb 4096 (root_count_of st.drawn) r)

-- what follows from the calls

moved_drawn : (st : State) (c : Call) → (moved st c).drawn ≡ drawn_by c st.drawn
moved_drawn st (Bind e s) = refl
moved_drawn st (Pin s) = refl
moved_drawn st (Root s) = refl
moved_drawn st Sweep = refl
moved_drawn st Fold = refl

drawn_follows : (st : State) (calls : List Call) → (run st calls).drawn ≡ drawn_all (accepted st calls) st.drawn
drawn_follows st [] = refl
drawn_follows st (c ∷ cs) = drawn_follows (step st c) cs ∙ go (refusal st c)
  where
    go :
        (o : Option Fault) →
        drawn_all (accepted (step st c) cs) (unless o st (moved st c)).drawn ≡
        drawn_all (unless_refused o c (accepted (step st c) cs)) st.drawn
    go None = ap (drawn_all (accepted (step st c) cs)) (moved_drawn st c)
    go (Some f) = refl

moved_bound : (st : State) (c : Call) → (moved st c).bound ≡ st.bound ++ name_in c
moved_bound st (Bind e s) = refl
moved_bound st (Pin s) = sym (append-nil st.bound)
moved_bound st (Root s) = sym (append-nil st.bound)
moved_bound st Sweep = sym (append-nil st.bound)
moved_bound st Fold = sym (append-nil st.bound)

bound_follows : (st : State) (calls : List Call) → (run st calls).bound ≡ st.bound ++ names_in (accepted st calls)
bound_follows st [] = sym (append-nil st.bound)
bound_follows st (c ∷ cs) = bound_follows (step st c) cs ∙ go (refusal st c)
  where
    go :
        (o : Option Fault) →
        (unless o st (moved st c)).bound ++ names_in (accepted (step st c) cs) ≡
        st.bound ++ names_in (unless_refused o c (accepted (step st c) cs))
    go None =
        ap (λ (xs : List ℕ). xs ++ names_in (accepted (step st c) cs)) (moved_bound st c) ∙
        append_assoc st.bound (name_in c) (names_in (accepted (step st c) cs))
    go (Some f) = refl

moved_added : (st : State) (c : Call) → (moved st c).added ≡ st.added + length (root_in c)
moved_added st (Bind e s) = omega arith
moved_added st (Pin s) = omega arith
moved_added st (Root s) = omega arith
moved_added st Sweep = omega arith
moved_added st Fold = omega arith

added_follows : (st : State) (calls : List Call) → (run st calls).added ≡ st.added + length (roots_in (accepted st calls))
added_follows st [] = omega arith
added_follows st (c ∷ cs) = added_follows (step st c) cs ∙ go (refusal st c)
  where
    go :
        (o : Option Fault) →
        (unless o st (moved st c)).added + length (roots_in (accepted (step st c) cs)) ≡
        st.added + length (roots_in (unless_refused o c (accepted (step st c) cs)))
    go None =
        omega (arith, moved_added st c, length-append (root_in c) (roots_in (accepted (step st c) cs)))
    go (Some f) = refl

moved_roots : (st : State) (c : Call) → (moved st c).drawn.roots ≡ st.drawn.roots ++ root_in c
moved_roots st (Bind e s) = sym (append-nil st.drawn.roots)
moved_roots st (Pin s) = sym (append-nil st.drawn.roots)
moved_roots st (Root s) = refl
moved_roots st Sweep = sym (append-nil st.drawn.roots)
moved_roots st Fold = sym (append-nil st.drawn.roots)

roots_follow : (st : State) (calls : List Call) → (run st calls).drawn.roots ≡ st.drawn.roots ++ roots_in (accepted st calls)
roots_follow st [] = sym (append-nil st.drawn.roots)
roots_follow st (c ∷ cs) = roots_follow (step st c) cs ∙ go (refusal st c)
  where
    go :
        (o : Option Fault) →
        (unless o st (moved st c)).drawn.roots ++ roots_in (accepted (step st c) cs) ≡
        st.drawn.roots ++ roots_in (unless_refused o c (accepted (step st c) cs))
    go None =
        ap (λ (xs : List ℕ). xs ++ roots_in (accepted (step st c) cs)) (moved_roots st c) ∙
        append_assoc st.drawn.roots (root_in c) (roots_in (accepted (step st c) cs))
    go (Some f) = refl

or_swap : (a b c d : Bool) → ((a || b) || (c || d)) ≡ ((a || c) || (b || d))
or_swap true b c d = refl
or_swap false true true d = refl
or_swap false true false d = refl
or_swap false false c d = refl

step_closed : (st : State) (c : Call) → (step st c).closed ≡ (st.closed || (is_sweep c || is_fold c))
step_closed st (Bind e s) = go (refusal st (Bind e s))
  where
    go : (o : Option Fault) → (unless o st (moved st (Bind e s))).closed ≡ (st.closed || false)
    go None = sym (or-false st.closed)
    go (Some f) = sym (or-false st.closed)
step_closed st (Pin s) = go (refusal st (Pin s))
  where
    go : (o : Option Fault) → (unless o st (moved st (Pin s))).closed ≡ (st.closed || false)
    go None = sym (or-false st.closed)
    go (Some f) = sym (or-false st.closed)
step_closed st (Root s) = go (refusal st (Root s))
  where
    go : (o : Option Fault) → (unless o st (moved st (Root s))).closed ≡ (st.closed || false)
    go None = sym (or-false st.closed)
    go (Some f) = sym (or-false st.closed)
step_closed st Sweep = sym (or-true st.closed)
step_closed st Fold = sym (or-true st.closed)

closed_follows : (st : State) (calls : List Call) → (run st calls).closed ≡ (st.closed || (some_call is_sweep calls || some_call is_fold calls))
closed_follows st [] = sym (or-false st.closed)
closed_follows st (c ∷ cs) =
    closed_follows (step st c) cs ∙
    (ap (λ (b : Bool). b || (some_call is_sweep cs || some_call is_fold cs)) (step_closed st c) ∙
    (or_assoc st.closed (is_sweep c || is_fold c) (some_call is_sweep cs || some_call is_fold cs) ∙
    ap (λ (b : Bool). st.closed || b) (or_swap (is_sweep c) (is_fold c) (some_call is_sweep cs) (some_call is_fold cs))))

pub run_follows : RunFollows
run_follows g calls =
    record {
      drawn = drawn_follows (start g) calls;
      bound = bound_follows (start g) calls;
      added = added_follows (start g) calls ∙ omega arith;
      roots = roots_follow (start g) calls;
      closed = closed_follows (start g) calls;
    }
