-- The pile's graph is the drawn graph seen through the slots.
use Rattle.std.proofs.Common.{◌≡◌, ℕ, zero, suc, Bool, true, false, ◌&&◌, ◌||◌, List, [], ◌∷◌, map, length, get_or, replicate, is_some, Some, None, Option, sym, refl, ap, ◌∙◌, subst, ⊎_elim, arith}
use Rattle.std.specs.Option.{option_map}
use Rattle.std.specs.List.{slice_get}
use Rattle.std.proofs.lemmas.Bool.{both_ways, cases_Bool, and_left}
use Rattle.std.proofs.lemmas.List.{ext_get_or}
use Rattle.std.proofs.lemmas.List.Folds.{map_fixed}
use Rattle.std.proofs.lemmas.Simd.{map-map}
use Rattle.model.specs.declared.Target.{Target}
use Rattle.model.specs.declared.Target.TheVariants.{Section, Outside}
use Rattle.model.specs.declared.Relocation.{Relocation}
use Rattle.model.specs.Graph.{Body, Graph, Present, section_of, count_of, told_relocation, relocation_of}
use Rattle.unfolding.specs.Telling.{with_relocations}
use Rattle.unfolding.specs.Groups.{foldable, aimed_at, aimed, moved, present}
use Rattle.unfolding.specs.Reach.{Reached, step as by_step, reached, swept}
use Rattle.unfolding.specs.Sections.{rules, rep, folded}
use Rattle.unfolding.proofs.Marks.{fold_present}
use Rattle.unfolding.proofs.Rules.{lawful_rules}
use Rattle.unfolding.proofs.Classes.{rep_itself}
use Rattle.folding.proofs.Rebuilt.{rebuilt_at, rebuilt_length, rebuilt_same}
use Rattle.folding.proofs.Aimed.{aimed_same, relocations_agree}
use Rattle.folding.proofs.Folded.{folded_stays}
use Rattle.folding.proofs.Both.{aimed_relocation, target_present}
use Rattle.folding.proofs.Theorems.{sweep_sweeps, fold_folds}
use Rattle.calls.specs.declared.Slot.{Slot}
use Rattle.calls.specs.declared.Slot.TheVariants.{Untouched, Folded, Swept}
use Rattle.calls.specs.declared.Call.{Call}
use Rattle.calls.specs.declared.Call.TheVariants.{Bind, Pin, Root, Sweep, Fold}
use Rattle.calls.specs.declared.Place.{Place}
use Rattle.calls.specs.declared.Place.TheVariants.{At, Absent, Swept as Nowhere}
use Rattle.fault.specs.declared.Fault.{Fault}
use Rattle.runs.specs.State.{State, start, closed_fault, refusal, moved as done, unless, step, run, slot_of, untouched, found_at}
use Rattle.runs.specs.Promise.{is_sweep, is_fold}
use Rattle.runs.specs.Seen.{number_or, found_number, left_of, seen_section, seen_through, PileSeen}
use Rattle.runs.proofs.Slots.{fresh_at, found_untouched, next_place}
use Rattle.runs.proofs.Invariant.{Invariant, present_untouched, found_present}
use Rattle.runs.proofs.Closing.{next_found}
use Rattle.runs.proofs.Steps.{swept_fate, own, joined_to, folded_fate, sweeps_kept, folds_rep, passed, or_none, sweep_keeps, fold_keeps, step_keeps, new_keeps}

-- relocations put elsewhere twice, and by two functions that agree where it matters

moved_after : (f h k : ℕ → ℕ) → ((t : ℕ) → k t ≡ f (h t)) → (x : Target) → moved f (moved h x) ≡ moved k x
moved_after f h k same (Section t) = ap {B = Target} Section (sym (same t))
moved_after f h k same (Outside e) = refl

aimed_after :
    (f h k : ℕ → ℕ) →
    ((t : ℕ) → k t ≡ f (h t)) →
    (o : Option Body) →
    option_map (aimed (moved f)) (option_map (aimed (moved h)) o) ≡ option_map (aimed (moved k)) o
aimed_after f h k same None = refl
aimed_after f h k same (Some b) =
    ap (λ (rs : List Relocation). Some (with_relocations b rs))
    (map-map (aimed_at (moved f)) (aimed_at (moved h)) b.relocations ∙
    relocations_agree (λ x. moved f (moved h x)) (moved k) b.relocations (λ _ r _. moved_after f h k same r.target))

moved_agree : (f h : ℕ → ℕ) (x : Target) → ((t : ℕ) → x ≡ Section t → f t ≡ h t) → moved f x ≡ moved h x
moved_agree f h (Section t) same = ap {B = Target} Section (same t refl)
moved_agree f h (Outside e) same = refl

aimed_agree :
    (f h : ℕ → ℕ) (o : Option Body) →
    ((j : ℕ) (r : Relocation) (t : ℕ) → told_relocation o j ≡ Some r → r.target ≡ Section t → f t ≡ h t) →
    option_map (aimed (moved f)) o ≡ option_map (aimed (moved h)) o
aimed_agree f h None same = refl
aimed_agree f h (Some b) same =
    ap (λ (rs : List Relocation). Some (with_relocations b rs))
    (relocations_agree (moved f) (moved h) b.relocations (λ j r e. moved_agree f h r.target (λ t. same j r t e)))

-- a section seen through slots

left_none : (x : Slot) → left_of x None ≡ None
left_none Untouched = refl
left_none (Folded t) = refl
left_none Swept = refl

pub seen_at : (slots : List Slot) (d : Graph) (s : ℕ) → section_of (seen_through slots d) s ≡ seen_section slots s (section_of d s)
seen_at slots d s = rebuilt_at (seen_section slots) d (λ t. left_none (slot_of slots t)) s

seen_some : (x : Slot) (f : ℕ → ℕ) (o : Option Body) → is_some (left_of x (option_map (aimed (moved f)) o)) ≡ (is_some o && untouched x)
seen_some Untouched f None = refl
seen_some Untouched f (Some b) = refl
seen_some (Folded t) f None = refl
seen_some (Folded t) f (Some b) = refl
seen_some Swept f None = refl
seen_some Swept f (Some b) = refl

not_some : {X : Type 0} (o : Option X) → is_some o ≡ false → o ≡ None
not_some None e = refl
not_some (Some x) e = absurd (both_ways true e refl)

-- a pile to which nothing happened

fresh_number : (s : ℕ) → found_number (replicate 1024 Untouched) s ≡ s
fresh_number s = ap (number_or s) (found_untouched (replicate 1024 Untouched) s (fresh_at 1024 s))

pub fresh_seen : (d : Graph) → seen_through (replicate 1024 Untouched) d ≡ d
fresh_seen d =
    let slots = replicate 1024 Untouched in
    let sections =
    rebuilt_same (seen_section slots) d (λ t. left_none (slot_of slots t))
    (λ s.
    ap (λ (x : Slot). left_of x (option_map (aimed (moved (found_number slots))) (section_of d s))) (fresh_at 1024 s) ∙
    aimed_same (found_number slots) fresh_number (section_of d s)) in
    let roots = map_fixed (found_number slots) d.roots (λ j s _. fresh_number (get_or d.roots j s)) in
    λ i. record { sections = sections i; roots = roots i }

-- a list that has f s wherever the other has s
map_from :
    (f : ℕ → ℕ) (xs ys : List ℕ) →
    length ys ≡ length xs →
    ((j s : ℕ) → slice_get xs j ≡ Some s → slice_get ys j ≡ Some (f s)) →
    ys ≡ map f xs
map_from f [] [] l h = refl
map_from f [] (y ∷ ys) l h = absurd (omega arith)
map_from f (x ∷ xs) [] l h = absurd (omega arith)
map_from f (x ∷ xs) (y ∷ ys) l h =
    let at = h zero x refl in
    let here : y ≡ f x = cc in
    let rest = map_from f xs ys (omega arith) (λ j s e. h (suc j) s e) in
    λ i. here i ∷ rest i

module _ (g : Graph) (st : State) (a b : Bool) (i : Invariant g st a b) where
  -- the roots are those of the drawn graph, each at its place
  roots_seen : st.graph.roots ≡ map (found_number st.slots) st.drawn.roots
  roots_seen =
      map_from (found_number st.slots) st.drawn.roots st.graph.roots i.as_many
      (λ j s e.
      let r = i.roots j s e in
      r.2 ∙ ap {B = Option ℕ} Some (sym (ap (number_or s) r.1)))

  -- so the sections decide, and of those only the present ones
  pub seen_from :
      ((s : ℕ) → Present st.graph s → section_of st.graph s ≡ option_map (aimed (moved (found_number st.slots))) (section_of st.drawn s)) →
      st.graph ≡ seen_through st.slots st.drawn
  seen_from here =
      let count : count_of st.graph ≡ length (seen_through st.slots st.drawn).sections =
      i.count ∙ (sym i.drawn_count ∙ sym (rebuilt_length (seen_section st.slots) st.drawn)) in
      let sections =
      ext_get_or None st.graph.sections (seen_through st.slots st.drawn).sections count
      (λ s _. each s (present st.graph s) refl ∙ sym (seen_at st.slots st.drawn s)) in
      let roots = roots_seen in
      λ i. record { sections = sections i; roots = roots i }
    where
      each : (s : ℕ) (p : Bool) → present st.graph s ≡ p → section_of st.graph s ≡ seen_section st.slots s (section_of st.drawn s)
      each s true p =
          here s p ∙
          sym
          (ap
          (λ (x : Slot). left_of x (option_map (aimed (moved (found_number st.slots))) (section_of st.drawn s)))
          (present_untouched i s p))
      each s false p =
          not_some (section_of st.graph s) p ∙
          sym
          (not_some (seen_section st.slots s (section_of st.drawn s))
          (seen_some (slot_of st.slots s) (found_number st.slots) (section_of st.drawn s) ∙ (sym (i.standing s) ∙ p)))

-- the pile's graph is the drawn graph seen through the slots
abbrev Seen : State → Type 0
Seen st = st.graph ≡ seen_through st.slots st.drawn

open_seen : (g : Graph) (st : State) (a b : Bool) → Invariant g st a b → st.closed ≡ false → Seen st
open_seen g st a b i e =
    let u = i.unchanged e in
    u.0 ∙ (sym (fresh_seen st.drawn) ∙ ap (λ (x : List Slot). seen_through x st.drawn) (sym u.1))

module _ (g : Graph) (st : State) (a b : Bool) (i : Invariant g st a b) (seen : Seen st) where
  here : (s : ℕ) → Present st.graph s → section_of st.graph s ≡ option_map (aimed (moved (found_number st.slots))) (section_of st.drawn s)
  here s p =
      ap (λ (x : Graph). section_of x s) seen ∙
      (seen_at st.slots st.drawn s ∙
      ap
      (λ (x : Slot). left_of x (option_map (aimed (moved (found_number st.slots))) (section_of st.drawn s)))
      (present_untouched i s p))

  sweep_seen : (a' b' : Bool) → (b' ≡ true → b ≡ true) → Seen (done st Sweep)
  sweep_seen a' b' fewer = seen_from g (done st Sweep) a' b' (sweep_keeps g st a b i a' b' fewer) each
    where
      -- what a reached section points at is found where it was
      agree :
          (s : ℕ) →
          Present st.graph s × Reached st.graph s →
          (j : ℕ) (r : Relocation) (t : ℕ) →
          told_relocation (section_of st.drawn s) j ≡ Some r →
          r.target ≡ Section t →
          found_number st.slots t ≡ found_number (done st Sweep).slots t
      agree s p j r t e f = go (found_at st.slots t) refl
        where
          rel : relocation_of st.graph s j ≡ Some (aimed_at (moved (found_number st.slots)) r)
          rel =
              ap (λ (o : Option Body). told_relocation o j) (here s p.0) ∙
              aimed_relocation (moved (found_number st.slots)) (section_of st.drawn s) j r e

          aim : moved (found_number st.slots) r.target ≡ Section (found_number st.slots t)
          aim = ap (moved (found_number st.slots)) f

          after_it : (x : Place) → found_at st.slots t ≡ x → found_at (done st Sweep).slots t ≡ next_place (done st Sweep).slots x
          after_it x e =
              next_found g st a b i (reached st.graph) (λ _. Swept) (swept_fate st.graph) t ∙
              ap (next_place (done st Sweep).slots) e

          go : (x : Place) → found_at st.slots t ≡ x → found_number st.slots t ≡ found_number (done st Sweep).slots t
          go (At q) h =
              let same : found_number st.slots t ≡ q = ap (number_or t) h in
              let reach : Reached st.graph q = subst (λ (n : ℕ). Reached st.graph n) same (by_step j p.1 rel aim) in
              let there : Present st.graph q =
              subst (λ (n : ℕ). Present st.graph n) same
              (target_present st.graph i.valid s j (aimed_at (moved (found_number st.slots)) r) (found_number st.slots t) rel aim) in
              same ∙ sym (ap (number_or t) (after_it (At q) h ∙ sweeps_kept g st a b i q there reach))
          go Nowhere h = ap (number_or t) h ∙ sym (ap (number_or t) (after_it Nowhere h))
          go Absent h = ap (number_or t) h ∙ sym (ap (number_or t) (after_it Absent h))

      each :
          (s : ℕ) →
          Present (swept st.graph) s →
          section_of (swept st.graph) s ≡ option_map (aimed (moved (found_number (done st Sweep).slots))) (section_of st.drawn s)
      each s p =
          let was = (sweep_sweeps st.graph).goes s p in
          (sweep_sweeps st.graph).stays s was.1 ∙
          (here s was.0 ∙
          aimed_agree (found_number st.slots) (found_number (done st Sweep).slots) (section_of st.drawn s) (agree s was))

  fold_seen : (a' b' : Bool) → (a' ≡ true → a ≡ true) → Seen (done st Fold)
  fold_seen a' b' fewer = seen_from g (done st Fold) a' b' (fold_keeps g st a b i a' b' fewer) each
    where
      -- an absent section is its own representative
      absent_own : (t : ℕ) → present st.graph t ≡ false → rep st.graph t ≡ t
      absent_own t e =
          rep_itself rules lawful_rules st.graph t
          (⊎_elim
          (λ f. absurd (both_ways (present st.graph t) e (fold_present st.graph t f)))
          (λ f. f)
          (cases_Bool (foldable st.graph t)))

      after_it : (t : ℕ) (x : Place) → found_at st.slots t ≡ x → found_at (done st Fold).slots t ≡ next_place (done st Fold).slots x
      after_it t x e =
          next_found g st a b i (own st.graph) (joined_to st.graph) (folded_fate st.graph) t ∙
          ap (next_place (done st Fold).slots) e

      touched_absent : (t : ℕ) → (found_at st.slots t ≡ At t → ⊥) → present st.graph t ≡ false
      touched_absent t ne =
          ⊎_elim
          (λ p. absurd (ne (found_untouched st.slots t (present_untouched i t p))))
          (λ p. p)
          (cases_Bool (present st.graph t))

      -- each section is found at the representative of where it was
      numbers : (t : ℕ) → found_number (done st Fold).slots t ≡ rep st.graph (found_number st.slots t)
      numbers t = go (present st.drawn t) refl (found_at st.slots t) refl
        where
          elsewhere : (x : Place) → number_or t x ≡ t → next_place (done st Fold).slots x ≡ x → (x ≡ At t → ⊥) → found_at st.slots t ≡ x → found_number (done st Fold).slots t ≡ rep st.graph (found_number st.slots t)
          elsewhere x n same ne h =
              ap (number_or t) (after_it t x h ∙ same) ∙
              (n ∙
              (sym (absent_own t (touched_absent t (λ e. ne (sym h ∙ e)))) ∙
              ap (rep st.graph) (sym (ap (number_or t) h ∙ n))))

          go :
              (d : Bool) →
              present st.drawn t ≡ d →
              (x : Place) →
              found_at st.slots t ≡ x →
              found_number (done st Fold).slots t ≡ rep st.graph (found_number st.slots t)
          go false d x h =
              let was = found_untouched st.slots t (i.blank t d) in
              let now = found_untouched (done st Fold).slots t ((fold_keeps g st a b i a' b' fewer).blank t d) in
              let gone : present st.graph t ≡ false = i.standing t ∙ and_left (present st.drawn t) (untouched (slot_of st.slots t)) d in
              ap (number_or t) now ∙ (sym (absent_own t gone) ∙ ap (rep st.graph) (sym (ap (number_or t) was)))
          go true d (At q) h =
              ap (number_or t) (after_it t (At q) h ∙ folds_rep g st a b i q (found_present i t q d h)) ∙
              ap (rep st.graph) (sym (ap (number_or t) h))
          go true d Nowhere h =
              elsewhere Nowhere refl refl
              (λ e.
              let z : ◌≡◌ {A = ℕ} 0 1 = cc in
              omega arith)
              h
          go true d Absent h =
              elsewhere Absent refl refl
              (λ e.
              let z : ◌≡◌ {A = ℕ} 0 1 = cc in
              omega arith)
              h

      each :
          (s : ℕ) →
          Present (folded st.graph) s →
          section_of (folded st.graph) s ≡ option_map (aimed (moved (found_number (done st Fold).slots))) (section_of st.drawn s)
      each s p =
          let was = (fold_folds st.graph).goes s p in
          folded_stays rules lawful_rules st.graph s was.0 ∙
          (ap (option_map (aimed (moved (rep st.graph)))) (here s was.1) ∙
          aimed_after
          (rep st.graph)
          (found_number st.slots)
          (found_number (done st Fold).slots)
          numbers
          (section_of st.drawn s))

-- after every call

step_seen : (g : Graph) (st : State) (a b : Bool) → Invariant g st a b → Seen st → (c : Call) → Seen (step st c)
step_seen g st a b i seen Sweep = sweep_seen g st a b i seen (a || true) (b || false) (or_none b)
step_seen g st a b i seen Fold = fold_seen g st a b i seen (a || false) (b || true) (or_none a)
step_seen g st a b i seen (Bind e s) = go (refusal st (Bind e s)) refl (step_keeps g st a b i (Bind e s))
  where
    go : (o : Option Fault) → refusal st (Bind e s) ≡ o → Invariant g (unless o st (done st (Bind e s))) (a || false) (b || false) → Seen (unless o st (done st (Bind e s)))
    go (Some f) h k = seen
    go None h k = open_seen g (done st (Bind e s)) (a || false) (b || false) k (passed st.closed closed_fault _ h).0
step_seen g st a b i seen (Pin s) = go (refusal st (Pin s)) refl (step_keeps g st a b i (Pin s))
  where
    go : (o : Option Fault) → refusal st (Pin s) ≡ o → Invariant g (unless o st (done st (Pin s))) (a || false) (b || false) → Seen (unless o st (done st (Pin s)))
    go (Some f) h k = seen
    go None h k = open_seen g (done st (Pin s)) (a || false) (b || false) k (passed st.closed closed_fault _ h).0
step_seen g st a b i seen (Root s) = go (refusal st (Root s)) refl (step_keeps g st a b i (Root s))
  where
    go : (o : Option Fault) → refusal st (Root s) ≡ o → Invariant g (unless o st (done st (Root s))) (a || false) (b || false) → Seen (unless o st (done st (Root s)))
    go (Some f) h k = seen
    go None h k = open_seen g (done st (Root s)) (a || false) (b || false) k (passed st.closed closed_fault _ h).0

run_seen : (g : Graph) (st : State) (a b : Bool) → Invariant g st a b → Seen st → (cs : List Call) → Seen (run st cs)
run_seen g st a b i seen [] = seen
run_seen g st a b i seen (c ∷ cs) =
    run_seen g (step st c) (a || is_sweep c) (b || is_fold c) (step_keeps g st a b i c) (step_seen g st a b i seen c) cs

pub pile_seen : PileSeen
pile_seen g v calls = run_seen g (start g) false false (new_keeps g v) (sym (fresh_seen g)) calls
