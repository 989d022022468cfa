-- Every call keeps the invariant.
use Rattle.std.proofs.Common.{◌≡◌, ℕ, ◌<◌, Bool, true, false, ◌&&◌, ◌||◌, eqb, leb, List, [], ◌∷◌, length, is_some, Some, None, Option, sym, refl, ap, ◌∙◌, subst, ⊎_elim, arith}
use Rattle.std.proofs.lemmas.Bool.{both_ways, and_parts, and_from, or_cases, or_parts, eqb-true, eqb-false, eq-eqb, not-false, leb-false}
use Rattle.std.proofs.lemmas.Bool.Decides.{same_from_decides}
use Rattle.std.proofs.Math.Bool.{or_assoc}
use Rattle.fault.specs.declared.Fault.{Fault}
use Rattle.model.specs.Graph.{Body, Graph, Present, root_of, root_count_of}
use Rattle.model.specs.Laws.{Valid}
use Rattle.steps.proofs.Nth.{all_at}
use Rattle.unfolding.specs.Groups.{present}
use Rattle.unfolding.specs.Reach.{Reached, root as by_root, has, reached, swept}
use Rattle.unfolding.specs.Sections.{Alike, rules, rep, folded}
use Rattle.unfolding.proofs.Marks.{present_bound}
use Rattle.unfolding.proofs.Rules.{lawful_rules}
use Rattle.unfolding.proofs.Classes.{rep_rep, rep_below}
use Rattle.folding.proofs.Folded.{rep_present}
use Rattle.folding.proofs.Theorems.{fold_folds, fold_valid, reach_decided, sweep_sweeps, sweep_valid, fold_keeps_reached, sweep_keeps_apart}
use Rattle.calls.specs.declared.Slot.{Slot}
use Rattle.calls.specs.declared.Slot.TheVariants.{Folded, Swept}
use Rattle.calls.specs.declared.Call.{Call}
use Rattle.calls.specs.declared.Call.TheVariants.{Bind, Pin, Root, Sweep, Fold}
use Rattle.calls.specs.declared.Place.{Place}
use Rattle.calls.specs.declared.Place.TheVariants.{At, Swept as Nowhere}
use Rattle.runs.specs.Drawn.{bind, pin, root}
use Rattle.runs.specs.State.{State, start, closed_fault, no_section, bound_before, full, check, missing, binds_full, roots_full, refusal, moved, unless, step, run, after}
use Rattle.runs.specs.Promise.{is_sweep, is_fold, some_call}
use Rattle.runs.proofs.Draws.{bind_count, bind_present, bind_valid, pin_count, pin_present, pin_valid, root_valid}
use Rattle.runs.proofs.Invariant.{Invariant, less, fresh, open_again}
use Rattle.runs.proofs.Closing.{Fate, dropped, joined, goes_to, goes_stays, goes_new, closing}

-- the sweep

pub swept_fate : (g : Graph) (s : ℕ) → Present g s → reached g s ≡ false → Fate g (reached g) s Swept
swept_fate g s p e = dropped

pub reached_yes : (g : Graph) (s : ℕ) → Present g s → Reached g s → reached g s ≡ true
reached_yes g s p q = (reach_decided g s (present_bound g s p)).1 q

pub reached_is : (g : Graph) (s : ℕ) → Present g s → reached g s ≡ true → Reached g s
reached_is g s p e = (reach_decided g s (present_bound g s p)).0 e

pub swept_present : (g : Graph) (s : ℕ) → present (swept g) s ≡ (present g s && reached g s)
swept_present g s =
    same_from_decides (present (swept g) s) (present g s && reached g s) (λ p. p, λ p. p) (
      λ p.
          let h = and_parts (present g s) (reached g s) p in
          ap (λ (o : Option Body). is_some o) ((sweep_sweeps g).stays s (reached_is g s h.0 h.1)) ∙ h.0,
      λ p.
          let h = (sweep_sweeps g).goes s p in
          and_from (present g s) (reached g s) h.0 (reached_yes g s h.0 h.1),
    )

pub root_present : (g : Graph) → Valid g → (j s : ℕ) → root_of g j ≡ Some s → Present g s
root_present g v j s e = all_at (Present g) g.roots j s v.rooted e

module _ (g : Graph) (st : State) (a b : Bool) (i : Invariant g st a b) where
  -- where a present section is found after the sweep
  abbrev pub sweeps_to : ℕ → Place
  sweeps_to p = goes_to g st a b i (reached st.graph) (λ _. Swept) (swept_fate st.graph) p

  pub sweeps_kept : (p : ℕ) → Present st.graph p → Reached st.graph p → sweeps_to p ≡ At p
  sweeps_kept p h q =
      goes_stays g st a b i (reached st.graph) (λ _. Swept) (swept_fate st.graph) p h (reached_yes st.graph p h q)

  pub sweeps_gone : (p : ℕ) → Present st.graph p → reached st.graph p ≡ false → sweeps_to p ≡ Nowhere
  sweeps_gone p h e = goes_new g st a b i (reached st.graph) (λ _. Swept) (swept_fate st.graph) p h e

  pub sweep_keeps : (a' b' : Bool) → (b' ≡ true → b ≡ true) → Invariant g (moved st Sweep) a' b'
  sweep_keeps a' b' fewer =
      closing g st a b i (reached st.graph) (λ _. Swept) (swept_fate st.graph)
      (swept st.graph)
      a'
      b'
      (sweep_valid st.graph i.valid)
      (sweep_sweeps st.graph).count
      (swept_present st.graph)
      (λ p q h e. alike p q h e (reached st.graph p) refl)
      (ap length (sweep_sweeps st.graph).roots)
      (λ j p e. (p, sweeps_kept p (root_present st.graph i.valid j p e) (by_root j e), e))
      (λ e. sweep_keeps_apart st.graph (i.apart (fewer e)))
      (λ e. (sweep_sweeps st.graph).all_reached)
    where
      alike :
          (p q : ℕ) →
          Present st.graph p →
          sweeps_to p ≡ At q →
          (r : Bool) →
          reached st.graph p ≡ r →
          Alike (swept st.graph) q st.graph p
      alike p q h e true f =
          let reach = reached_is st.graph p h f in
          let kept = sweeps_kept p h reach in
          let z : p ≡ q = cc in
          subst (λ (x : ℕ). Alike (swept st.graph) x st.graph p) z ((sweep_sweeps st.graph).unfolds p reach)
      alike p q h e false f =
          let gone = sweeps_gone p h f in
          let z : ◌≡◌ {A = ℕ} 0 1 = cc in
          absurd (omega arith)

-- the fold

abbrev pub own : Graph → ℕ → Bool
own g s = eqb (rep g s) s

abbrev pub joined_to : Graph → ℕ → Slot
joined_to g s = Folded (rep g s)

pub folded_fate : (g : Graph) (s : ℕ) → Present g s → own g s ≡ false → Fate g (own g) s (joined_to g s)
folded_fate g s p e =
    let ne = eqb-false (rep g s) s e in
    let le = rep_below rules lawful_rules g s in
    joined (omega arith) (rep_present rules lawful_rules g s p) (eq-eqb (rep g (rep g s)) (rep g s) (rep_rep rules lawful_rules g s))

pub folded_present : (g : Graph) (s : ℕ) → present (folded g) s ≡ (present g s && own g s)
folded_present g s =
    same_from_decides (present (folded g) s) (present g s && own g s) (λ p. p, λ p. p) (
      λ p.
          let h = and_parts (present g s) (own g s) p in
          (fold_folds g).stays s h.0 (eqb-true (rep g s) s h.1),
      λ p.
          let h = (fold_folds g).goes s p in
          and_from (present g s) (own g s) h.1 (eq-eqb (rep g s) s h.0),
    )

module _ (g : Graph) (st : State) (a b : Bool) (i : Invariant g st a b) where
  -- where a present section is found after the fold
  abbrev pub folds_to : ℕ → Place
  folds_to p = goes_to g st a b i (own st.graph) (joined_to st.graph) (folded_fate st.graph) p

  pub folds_rep : (p : ℕ) → Present st.graph p → folds_to p ≡ At (rep st.graph p)
  folds_rep p h = go (own st.graph p) refl
    where
      go : (r : Bool) → own st.graph p ≡ r → folds_to p ≡ At (rep st.graph p)
      go true e =
          goes_stays g st a b i (own st.graph) (joined_to st.graph) (folded_fate st.graph) p h e ∙
          ap {B = Place} At (sym (eqb-true (rep st.graph p) p e))
      go false e = goes_new g st a b i (own st.graph) (joined_to st.graph) (folded_fate st.graph) p h e

  pub fold_keeps : (a' b' : Bool) → (a' ≡ true → a ≡ true) → Invariant g (moved st Fold) a' b'
  fold_keeps a' b' fewer =
      closing g st a b i (own st.graph) (joined_to st.graph) (folded_fate st.graph)
      (folded st.graph)
      a'
      b'
      (fold_valid st.graph i.valid)
      (fold_folds st.graph).count
      (folded_present st.graph)
      alike
      (fold_folds st.graph).root_count
      (λ j p e. (rep st.graph p, folds_rep p (root_present st.graph i.valid j p e), (fold_folds st.graph).roots j p e))
      (λ e. (fold_folds st.graph).apart)
      (λ e. fold_keeps_reached st.graph i.valid (i.all_reached (fewer e)))
    where
      alike : (p q : ℕ) → Present st.graph p → folds_to p ≡ At q → Alike (folded st.graph) q st.graph p
      alike p q h e =
          let at = folds_rep p h in
          let z : rep st.graph p ≡ q = cc in
          subst (λ (x : ℕ). Alike (folded st.graph) x st.graph p) z ((fold_folds st.graph).unfolds p)

-- binds, pins and roots

pub passed : (t : Bool) (f : Fault) (later : Option Fault) → check t f later ≡ None → (t ≡ false) × (later ≡ None)
passed true f later e =
    let z : ◌≡◌ {A = ℕ} 0 1 = cc in
    absurd (omega arith)
passed false f later e = (refl, e)

-- a call that is neither a sweep nor a fold adds nothing to the flags
pub or_none : (a : Bool) → (a || false) ≡ true → a ≡ true
or_none a e = ⊎_elim (λ h. h) (λ h. absurd (both_ways false refl h)) (or_cases a false e)

module _ (g : Graph) (st : State) (a b : Bool) (i : Invariant g st a b) (open' : st.closed ≡ false) where
  no_sweep : (a || false) ≡ true → ⊥
  no_sweep e = both_ways st.closed open' (i.swept_closed (or_none a e))

  no_fold : (b || false) ≡ true → ⊥
  no_fold e = both_ways st.closed open' (i.folded_closed (or_none b e))

  bind_keeps : (e s : ℕ) → Present st.drawn s → Invariant g (moved st (Bind e s)) (a || false) (b || false)
  bind_keeps e s p =
      let u = i.unchanged open' in
      open_again g (moved st (Bind e s)) (a || false) (b || false) open' (ap (bind e s) u.0) u.1
      (bind_valid e s st.drawn i.drawn_valid p)
      (bind_count e s st.drawn ∙ i.drawn_count)
      (λ t. bind_present e s st.drawn t ∙ i.presence t)
      no_sweep
      no_fold

  pin_keeps : (s : ℕ) → Invariant g (moved st (Pin s)) (a || false) (b || false)
  pin_keeps s =
      let u = i.unchanged open' in
      open_again g (moved st (Pin s)) (a || false) (b || false) open' (ap (pin s) u.0) u.1
      (pin_valid s st.drawn i.drawn_valid)
      (pin_count s st.drawn ∙ i.drawn_count)
      (λ t. pin_present s st.drawn t ∙ i.presence t)
      no_sweep
      no_fold

  root_keeps :
      (s : ℕ) → Present st.drawn s → root_count_of st.drawn < 4096 → Invariant g (moved st (Root s)) (a || false) (b || false)
  root_keeps s p room =
      let u = i.unchanged open' in
      open_again g (moved st (Root s)) (a || false) (b || false) open' (ap (root s) u.0) u.1
      (root_valid s st.drawn i.drawn_valid p room)
      i.drawn_count
      i.presence
      no_sweep
      no_fold

-- every call

pub step_keeps :
    (g : Graph) (st : State) (a b : Bool) →
    Invariant g st a b →
    (c : Call) →
    Invariant g (step st c) (a || is_sweep c) (b || is_fold c)
step_keeps g st a b i (Bind e s) = go (refusal st (Bind e s)) refl
  where
    go : (o : Option Fault) → refusal st (Bind e s) ≡ o → Invariant g (unless o st (moved st (Bind e s))) (a || false) (b || false)
    go (Some f) h = less (a || false) (b || false) (or_none a) (or_none b) i
    go None h =
        let later = check (missing st s) (no_section s) (check (has st.bound e) (bound_before e) (check (binds_full st) full None)) in
        let one = passed st.closed closed_fault later h in
        let two =
        passed (missing st s) (no_section s) (check (has st.bound e) (bound_before e) (check (binds_full st) full None)) one.1 in
        bind_keeps g st a b i one.0 e s (not-false (present st.drawn s) two.0)
step_keeps g st a b i (Pin s) = go (refusal st (Pin s)) refl
  where
    go : (o : Option Fault) → refusal st (Pin s) ≡ o → Invariant g (unless o st (moved st (Pin s))) (a || false) (b || false)
    go (Some f) h = less (a || false) (b || false) (or_none a) (or_none b) i
    go None h =
        let one = passed st.closed closed_fault (check (missing st s) (no_section s) None) h in
        pin_keeps g st a b i one.0 s
step_keeps g st a b i (Root s) = go (refusal st (Root s)) refl
  where
    go : (o : Option Fault) → refusal st (Root s) ≡ o → Invariant g (unless o st (moved st (Root s))) (a || false) (b || false)
    go (Some f) h = less (a || false) (b || false) (or_none a) (or_none b) i
    go None h =
        let one = passed st.closed closed_fault (check (missing st s) (no_section s) (check (roots_full st) full None)) h in
        let two = passed (missing st s) (no_section s) (check (roots_full st) full None) one.1 in
        let three = passed (roots_full st) full None two.1 in
        let room = or_parts (leb 64 st.added) (leb 4096 (root_count_of st.drawn)) three.0 in
        root_keeps g st a b i one.0 s
        (not-false (present st.drawn s) two.0)
        (leb-false 4096 (root_count_of st.drawn) room.1)
step_keeps g st a b i Sweep = sweep_keeps g st a b i (a || true) (b || false) (or_none b)
step_keeps g st a b i Fold = fold_keeps g st a b i (a || false) (b || true) (or_none a)

pub run_keeps :
    (g : Graph) (st : State) (a b : Bool) →
    Invariant g st a b →
    (cs : List Call) →
    Invariant g (run st cs) (a || some_call is_sweep cs) (b || some_call is_fold cs)
run_keeps g st a b i [] = less (a || false) (b || false) (or_none a) (or_none b) i
run_keeps g st a b i (c ∷ cs) =
    less
    (a || (is_sweep c || some_call is_sweep cs))
    (b || (is_fold c || some_call is_fold cs))
    (λ e. or_assoc a (is_sweep c) (some_call is_sweep cs) ∙ e)
    (λ e. or_assoc b (is_fold c) (some_call is_fold cs) ∙ e)
    (run_keeps g (step st c) (a || is_sweep c) (b || is_fold c) (step_keeps g st a b i c) cs)

-- a new pile, and after any calls on it

pub new_keeps : (g : Graph) → Valid g → Invariant g (start g) false false
new_keeps g v = fresh g g [] 0 false false v refl (λ _. refl) (both_ways false refl) (both_ways false refl)

pub after_keeps :
    (g : Graph) → Valid g → (calls : List Call) → Invariant g (after g calls) (some_call is_sweep calls) (some_call is_fold calls)
after_keeps g v calls = run_keeps g (start g) false false (new_keeps g v) calls
