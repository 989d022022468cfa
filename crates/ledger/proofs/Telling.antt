-- What each change of the inner table means for the state, and that the state stays one that calls led to.
use Rattle.std.proofs.Common.{◌≡◌, ℕ, suc, ◌+◌, ◌<◌, ◌≤◌, Bool, true, false, cond, not, ◌&&◌, ◌||◌, eqb, leb, List, [], ◌∷◌, ◌++◌, length, get_or, drop, replicate, None, Option, sym, refl, ap, ◌∙◌, subst, add-one, arith}
use Rattle.std.proofs.lemmas.Bool.{or_parts, leb-false, not-false}
use Rattle.std.proofs.lemmas.List.{length-append, length-map, length_push, length-set, length-replicate, map-append, same_lists}
use Rattle.arrayvec.specs.ArrayVec.{array_vec_len}
use Rattle.fault.specs.declared.Fault.{Fault}
use Rattle.model.specs.Graph.{Graph, count_of, root_count_of}
use Rattle.model.specs.Laws.{Valid}
use Rattle.steps.specs.Below.{count_below, table}
use Rattle.steps.proofs.Below.{table_at, table_length}
use Rattle.steps.proofs.Count.{count_same}
use Rattle.unfolding.specs.Groups.{present, present_count}
use Rattle.unfolding.specs.Reach.{has, reached, swept, dropped}
use Rattle.unfolding.specs.Sections.{rep, rounds, folded, merged}
use Rattle.unfolding.proofs.Marks.{present_bound}
use Rattle.folding.proofs.Rebuilt.{rebuilt_length}
use Rattle.folding.proofs.Theorems.{sweep_sweeps, fold_folds}
use Rattle.calls.specs.declared.Slot.{Slot}
use Rattle.calls.specs.declared.Slot.TheVariants.{Untouched, Folded, Swept}
use Rattle.calls.specs.declared.Call.{Call}
use Rattle.calls.specs.declared.Call.TheVariants.{Bind, Pin, Root, Sweep, Fold}
use Rattle.calls.specs.declared.Answer.TheVariants.{Dropped, Merged}
use Rattle.runs.specs.Drawn.{drawn_by}
use Rattle.runs.specs.State.{State, start, closed_fault, no_section, bound_before, full, check, refusal, slot_of, slots_by, swept_slot, folded_slot, moved, unless, step, answer, run, after}
use Rattle.runs.specs.Seen.{seen_section, seen_through}
use Rattle.runs.specs.Laws.{Tells}
use Rattle.runs.proofs.Slots.{slots_length}
use Rattle.runs.proofs.Seen.{pile_seen, fresh_seen}
use Rattle.runs.proofs.Steps.{passed, swept_present, folded_present}
use Rattle.runs.proofs.Telling.{pile_tells}
use Rattle.runs.proofs.Promised.{promise_stands}
use Rattle.slots.specs.declared.Slots.{Slots}
use Rattle.slots.specs.Turns.{stays, drops, dropped_slot, leads, joins, joined_slot}
use Rattle.ledger.specs.declared.Bind.{Bind as BindOf}
use Rattle.ledger.specs.declared.Ledger.{Ledger}
use Rattle.ledger.specs.Edits.{fresh, Bounds, with_bind, with_pin, with_root, shut, Shut}
use Rattle.ledger.specs.Told.{bound_names, drawn_from, told, Reachable, Kept}
use Rattle.ledger.specs.Answers.{bind_refused, pin_refused, root_refused}
use Rattle.ledger.proofs.Drawing.{drawn_count, drawn_present, drawn_roots, drawn_fresh, drawn_bind, drawn_pin, drawn_root}

-- the parts of the state

pub told_drawn : (g : Graph) (t : Ledger) → (told g t).drawn ≡ drawn_from g t
unfolding told
told_drawn g t = refl

pub told_graph : (g : Graph) (t : Ledger) → (told g t).graph ≡ seen_through t.slots.list (drawn_from g t)
unfolding told
told_graph g t = refl

pub told_count : (g : Graph) (t : Ledger) → count_of (told g t).graph ≡ count_of g
told_count g t =
    ap (λ (x : Graph). count_of x) (told_graph g t) ∙
    (rebuilt_length (seen_section t.slots.list) (drawn_from g t) ∙ drawn_count g t)

pub told_slots : (g : Graph) (t : Ledger) → (told g t).slots ≡ t.slots.list
unfolding told
told_slots g t = refl

pub told_bound : (g : Graph) (t : Ledger) → (told g t).bound ≡ bound_names t
unfolding told
told_bound g t = refl

pub told_added : (g : Graph) (t : Ledger) → (told g t).added ≡ array_vec_len t.roots
unfolding told
told_added g t = refl

pub told_closed : (g : Graph) (t : Ledger) → (told g t).closed ≡ t.closed
unfolding told
told_closed g t = refl

-- a new table

pub told_fresh : (g : Graph) → told g fresh ≡ start g
unfolding told
told_fresh g =
    let d = drawn_fresh g in
    let s : seen_through (replicate 1024 Untouched) (drawn_from g fresh) ≡ g = fresh_seen (drawn_from g fresh) ∙ drawn_fresh g in
    λ i. record { drawn = d i; graph = s i; slots = replicate 1024 Untouched; bound = []; added = 0; closed = false }

fresh_bounds : Bounds fresh
fresh_bounds =
    record {
      slots = length-replicate 1024 Untouched;
      pins = length-replicate 1024 false;
      binds = omega arith;
      roots = omega arith;
    }

pub fresh_reachable : (g : Graph) → Reachable g fresh
fresh_reachable g = record { calls = []; led = told_fresh g; bounds = fresh_bounds }

-- what is known of a state that calls led to

run_push : (st : State) (cs : List Call) (c : Call) → run st (cs ++ c ∷ []) ≡ step (run st cs) c
run_push st [] c = refl
run_push st (x ∷ cs) c = run_push (step st x) cs c

pub after_step : (g : Graph) (t : Ledger) (cs : List Call) → told g t ≡ after g cs → (c : Call) → after g (cs ++ c ∷ []) ≡ step (told g t) c
after_step g t cs led c = run_push (start g) cs c ∙ ap (λ (st : State). step st c) (sym led)

pub told_tells : (g : Graph) → Valid g → (t : Ledger) → Reachable g t → Tells g (told g t)
told_tells g v t r = subst (Tells g) (sym r.led) (pile_tells g v r.calls)

pub told_kept : (g : Graph) → Valid g → (t : Ledger) (cs : List Call) → told g t ≡ after g cs → Kept g cs (told g t)
told_kept g v t cs led = record { state = led; promise = promise_stands g v cs }

-- a table whose parts are those of the state after one more call
pub step_told :
    (g : Graph) →
    Valid g →
    (t : Ledger) →
    Reachable g t →
    (c : Call) (t' : Ledger) →
    drawn_from g t' ≡ (step (told g t) c).drawn →
    t'.slots.list ≡ (step (told g t) c).slots →
    bound_names t' ≡ (step (told g t) c).bound →
    array_vec_len t'.roots ≡ (step (told g t) c).added →
    t'.closed ≡ (step (told g t) c).closed →
    told g t' ≡ step (told g t) c
step_told g v t r c t' drawn slots bound added closed =
    let seen : (step (told g t) c).graph ≡ seen_through (step (told g t) c).slots (step (told g t) c).drawn =
    subst
    (λ (st : State). st.graph ≡ seen_through st.slots st.drawn)
    (after_step g t r.calls r.led c)
    (pile_seen g v (r.calls ++ c ∷ [])) in
    let look : seen_through t'.slots.list (drawn_from g t') ≡ seen_through (step (told g t) c).slots (step (told g t) c).drawn =
    λ i. seen_through (slots i) (drawn i) in
    let graph : (told g t').graph ≡ (step (told g t) c).graph = told_graph g t' ∙ (look ∙ sym seen) in
    let d = told_drawn g t' ∙ drawn in
    let s = told_slots g t' ∙ slots in
    let b = told_bound g t' ∙ bound in
    let a = told_added g t' ∙ added in
    let e = told_closed g t' ∙ closed in
    λ i. record { drawn = d i; graph = graph i; slots = s i; bound = b i; added = a i; closed = e i }

pub step_reachable :
    (g : Graph) (t : Ledger) → Reachable g t → (c : Call) (t' : Ledger) → told g t' ≡ step (told g t) c → Bounds t' → Reachable g t'
step_reachable g t r c t' e b =
    record { calls = r.calls ++ c ∷ []; led = e ∙ sym (after_step g t r.calls r.led c); bounds = b }

-- and for whatever calls led to the table before
pub step_kept :
    (g : Graph) → Valid g → (t : Ledger) (c : Call) (t' : Ledger) → told g t' ≡ step (told g t) c → (cs : List Call) → told g t ≡ after g cs → Kept g (cs ++ c ∷ []) (told g t')
step_kept g v t c t' e cs led = told_kept g v t' (cs ++ c ∷ []) (e ∙ sym (after_step g t cs led c))

-- why a call is refused

pub bind_refusal : (g : Graph) (t : Ledger) (e s : ℕ) → refusal (told g t) (Bind e s) ≡ bind_refused t (present g s) e s
unfolding told
bind_refusal g t e s =
    let p = drawn_present g t s in
    let n = length-map t.binds.items (λ (b : BindOf). b.name) in
    λ i.
    check t.closed closed_fault
    (check (not (p i)) (no_section s)
    (check (has (bound_names t) e) (bound_before e) (check (leb 64 (n i)) full None)))

pub pin_refusal : (g : Graph) (t : Ledger) (s : ℕ) → refusal (told g t) (Pin s) ≡ pin_refused t (present g s) s
unfolding told
pin_refusal g t s =
    let p = drawn_present g t s in
    λ i. check t.closed closed_fault (check (not (p i)) (no_section s) None)

pub roots_length : (g : Graph) (t : Ledger) → root_count_of (drawn_from g t) ≡ root_count_of g + array_vec_len t.roots
roots_length g t =
    ap (λ (xs : List ℕ). length xs) (drawn_roots g t) ∙ length-append g.roots t.roots.items

pub root_refusal : (g : Graph) (t : Ledger) (s : ℕ) → refusal (told g t) (Root s) ≡ root_refused t (present g s) (root_count_of g) s
unfolding told
root_refusal g t s =
    let p = drawn_present g t s in
    let n = roots_length g t in
    λ i. check t.closed closed_fault (check (not (p i)) (no_section s) (check (leb 64 (array_vec_len t.roots) || leb 4096 (n i)) full None))

-- what an accepted call has room for

pub bind_room : (t : Ledger) (there : Bool) (e s : ℕ) → bind_refused t there e s ≡ None → array_vec_len t.binds < 64
bind_room t there e s h =
    let one = passed t.closed closed_fault _ h in
    let two = passed (not there) (no_section s) _ one.1 in
    let three = passed (has (bound_names t) e) (bound_before e) _ two.1 in
    let four = passed (leb 64 (array_vec_len t.binds)) full None three.1 in
    leb-false 64 (array_vec_len t.binds) four.0

pub pin_there : (t : Ledger) (there : Bool) (s : ℕ) → pin_refused t there s ≡ None → there ≡ true
pin_there t there s h =
    let one = passed t.closed closed_fault _ h in
    let two = passed (not there) (no_section s) None one.1 in
    not-false there two.0

pub root_room : (t : Ledger) (there : Bool) (n s : ℕ) → root_refused t there n s ≡ None → array_vec_len t.roots < 64
root_room t there n s h =
    let one = passed t.closed closed_fault _ h in
    let two = passed (not there) (no_section s) _ one.1 in
    let three = passed (leb 64 (array_vec_len t.roots) || leb 4096 (n + array_vec_len t.roots)) full None two.1 in
    leb-false 64 (array_vec_len t.roots) (or_parts (leb 64 (array_vec_len t.roots)) (leb 4096 (n + array_vec_len t.roots)) three.0).0

pub small : (g : Graph) → Valid g → (s : ℕ) → present g s ≡ true → s < 1024
small g v s p = let h = present_bound g s p in omega (arith, v.few)

-- the calls

accepted : (st : State) (c : Call) → refusal st c ≡ None → step st c ≡ moved st c
accepted st c e = ap (λ (o : Option Fault). unless o st (moved st c)) e

pub told_bind : (g : Graph) → Valid g → (t : Ledger) → Reachable g t → (e s : ℕ) → refusal (told g t) (Bind e s) ≡ None → told g (with_bind t e s) ≡ step (told g t) (Bind e s)
told_bind g v t r e s none =
    let go = accepted (told g t) (Bind e s) none in
    step_told g v t r (Bind e s) (with_bind t e s)
    (drawn_bind g t e s ∙
    sym (ap (λ (st : State). st.drawn) go ∙ ap (λ (d : Graph). drawn_by (Bind e s) d) (told_drawn g t)))
    (sym (ap (λ (st : State). st.slots) go ∙ told_slots g t))
    (map-append (λ (b : BindOf). b.name) t.binds.items (record { name = e; section = s } ∷ []) ∙
    sym (ap (λ (st : State). st.bound) go ∙ ap (λ (xs : List ℕ). xs ++ e ∷ []) (told_bound g t)))
    (sym (ap (λ (st : State). st.added) go ∙ told_added g t))
    (sym (ap (λ (st : State). st.closed) go ∙ told_closed g t))

pub told_pin : (g : Graph) → Valid g → (t : Ledger) → Reachable g t → (s : ℕ) → refusal (told g t) (Pin s) ≡ None → s < 1024 → told g (with_pin t s) ≡ step (told g t) (Pin s)
told_pin g v t r s none room =
    let go = accepted (told g t) (Pin s) none in
    let b = r.bounds in
    let pins : s < length t.pins = omega (arith, b.pins) in
    step_told g v t r (Pin s) (with_pin t s)
    (drawn_pin g t s pins ∙
    sym (ap (λ (st : State). st.drawn) go ∙ ap (λ (d : Graph). drawn_by (Pin s) d) (told_drawn g t)))
    (sym (ap (λ (st : State). st.slots) go ∙ told_slots g t))
    (sym (ap (λ (st : State). st.bound) go ∙ told_bound g t))
    (sym (ap (λ (st : State). st.added) go ∙ told_added g t))
    (sym (ap (λ (st : State). st.closed) go ∙ told_closed g t))

pub told_root : (g : Graph) → Valid g → (t : Ledger) → Reachable g t → (s : ℕ) → refusal (told g t) (Root s) ≡ None → told g (with_root t s) ≡ step (told g t) (Root s)
told_root g v t r s none =
    let go = accepted (told g t) (Root s) none in
    step_told g v t r (Root s) (with_root t s)
    (drawn_root g t s ∙
    sym (ap (λ (st : State). st.drawn) go ∙ ap (λ (d : Graph). drawn_by (Root s) d) (told_drawn g t)))
    (sym (ap (λ (st : State). st.slots) go ∙ told_slots g t))
    (sym (ap (λ (st : State). st.bound) go ∙ told_bound g t))
    (length_push t.roots.items s ∙
    (add-one (array_vec_len t.roots) ∙ sym (ap (λ (st : State). st.added) go ∙ ap suc (told_added g t))))
    (sym (ap (λ (st : State). st.closed) go ∙ told_closed g t))

pub bind_bounds : (t : Ledger) (e s : ℕ) → Bounds t → array_vec_len t.binds < 64 → Bounds (with_bind t e s)
bind_bounds t e s b room =
    let binds : length (t.binds.items ++ record { name = e; section = s } ∷ []) ≤ 64 =
    omega (arith, length_push t.binds.items (record { name = e; section = s })) in
    record { slots = b.slots; pins = b.pins; binds = binds; roots = b.roots }

pub pin_bounds : (t : Ledger) (s : ℕ) → Bounds t → Bounds (with_pin t s)
pin_bounds t s b =
    record { slots = b.slots; pins = length-set t.pins s true ∙ b.pins; binds = b.binds; roots = b.roots }

pub root_bounds : (t : Ledger) (s : ℕ) → Bounds t → array_vec_len t.roots < 64 → Bounds (with_root t s)
root_bounds t s b room =
    let roots : length (t.roots.items ++ s ∷ []) ≤ 64 = omega (arith, length_push t.roots.items s) in
    record { slots = b.slots; pins = b.pins; binds = b.binds; roots = roots }

-- a sweep and a fold

rule_same :
    (f h : ℕ → Slot → Slot) (n : ℕ) (xs : List Slot) →
    ((s : ℕ) → s < n → f s (slot_of xs s) ≡ h s (slot_of xs s)) →
    slots_by f n xs ≡ slots_by h n xs
rule_same f h n xs same =
    ap (λ (ys : List Slot). ys ++ drop n xs)
    (same_lists
    (table (λ s. f s (slot_of xs s)) n)
    (table (λ s. h s (slot_of xs s)) n)
    (table_length (λ s. f s (slot_of xs s)) n ∙ sym (table_length (λ s. h s (slot_of xs s)) n))
    (λ k d l.
    let lt : k < n = subst (λ (m : ℕ). k < m) (table_length (λ s. f s (slot_of xs s)) n) l in
    table_at (λ s. f s (slot_of xs s)) n k d lt ∙ (same k lt ∙ sym (table_at (λ s. h s (slot_of xs s)) n k d lt))))

drawn_shut : (g : Graph) (t : Ledger) (x : Slots) → drawn_from g (shut t x) ≡ drawn_from g t
unfolding drawn_from
drawn_shut g t x = refl

-- all that a sweep or a fold leaves alone
shut_told :
    (g : Graph) → Valid g → (t : Ledger) → Reachable g t → (c : Call) (t' : Ledger) →
    t' ≡ shut t t'.slots →
    (step (told g t) c).drawn ≡ (told g t).drawn →
    (step (told g t) c).bound ≡ (told g t).bound →
    (step (told g t) c).added ≡ (told g t).added →
    (step (told g t) c).closed ≡ true →
    t'.slots.list ≡ (step (told g t) c).slots →
    told g t' ≡ step (told g t) c
shut_told g v t r c t' rest drawn bound added closed slots =
    step_told g v t r c t'
    (ap (drawn_from g) rest ∙ (drawn_shut g t t'.slots ∙ sym (drawn ∙ told_drawn g t)))
    slots
    (ap (λ (x : Ledger). bound_names x) rest ∙ sym (bound ∙ told_bound g t))
    (ap (λ (x : Ledger). array_vec_len x.roots) rest ∙ sym (added ∙ told_added g t))
    (ap (λ (x : Ledger). x.closed) rest ∙ sym closed)

pub shut_bounds :
    {f : ℕ → Slot → Slot} {p q : ℕ → Bool} {n : ℕ} {t t' : Ledger} {a b : ℕ} → n ≤ 1024 → Bounds t → Shut f p q n t t' a b → Bounds t'
shut_bounds {f} {p} {q} {n} {t} {t'} few b s =
    let rest = s.rest in
    subst Bounds (sym rest)
    (record {
      slots =
          ap (λ (xs : List Slot). length xs) s.turned.list ∙
          (slots_length f n t.slots.list (omega (arith, b.slots)) ∙ b.slots);
      pins = b.pins;
      binds = b.binds;
      roots = b.roots;
    })

module _ (g : Graph) (v : Valid g) (t : Ledger) where
  -- the sections that are present and reached in the pile, and the representatives
  abbrev pub there : List Bool
  there = table (present (told g t).graph) 1024

  abbrev pub marks : List Bool
  marks = table (reached (told g t).graph) 1024

  abbrev pub class : List ℕ
  class = table (rep (told g t).graph) 1024

  pub few : count_of (told g t).graph ≤ 1024
  few = omega (arith, told_count g t, v.few)

  there_at : (s : ℕ) → s < count_of (told g t).graph → get_or there s false ≡ present (told g t).graph s
  there_at s h = table_at (present (told g t).graph) 1024 s false (omega (arith, few))

  marks_at : (s : ℕ) → s < count_of (told g t).graph → get_or marks s false ≡ reached (told g t).graph s
  marks_at s h = table_at (reached (told g t).graph) 1024 s false (omega (arith, few))

  class_at : (s : ℕ) → s < count_of (told g t).graph → get_or class s 0 ≡ rep (told g t).graph s
  class_at s h = table_at (rep (told g t).graph) 1024 s 0 (omega (arith, few))

  module _ (t' : Ledger) (a b : ℕ) where
    pub told_sweep :
        Reachable g t →
        Shut (dropped_slot there marks) (stays there marks) (drops there marks) (count_of (told g t).graph) t t' a b → told g t' ≡ step (told g t) Sweep
    told_sweep r s =
        shut_told g v t r Sweep t' s.rest refl refl refl refl
        (s.turned.list ∙
        (rule_same (dropped_slot there marks) (swept_slot (told g t).graph) (count_of (told g t).graph) t.slots.list
        (λ k l.
        let p = there_at k l in
        let m = marks_at k l in
        λ i. cond (p i && not (m i)) Swept (slot_of t.slots.list k)) ∙
        ap (slots_by (swept_slot (told g t).graph) (count_of (told g t).graph)) (sym (told_slots g t))))

    pub sweep_answer :
        Shut (dropped_slot there marks) (stays there marks) (drops there marks) (count_of (told g t).graph) t t' a b →
        Dropped a b ≡ answer (told g t) Sweep
    sweep_answer s =
        let left : a ≡ present_count (swept (told g t).graph) =
        s.turned.kept ∙
        (count_same (stays there marks) (present (swept (told g t).graph)) (count_of (told g t).graph)
        (λ k l.
        (λ i. there_at k l i && marks_at k l i) ∙ sym (swept_present (told g t).graph k)) ∙
        ap (count_below (present (swept (told g t).graph))) (sym (sweep_sweeps (told g t).graph).count)) in
        let gone : b ≡ dropped (told g t).graph =
        s.turned.gone ∙
        count_same
        (drops there marks)
        (λ k. present (told g t).graph k && not (reached (told g t).graph k))
        (count_of (told g t).graph)
        (λ k l i. there_at k l i && not (marks_at k l i)) in
        λ i. Dropped (left i) (gone i)

    pub told_fold :
        Reachable g t →
        Shut (joined_slot there class) (leads there class) (joins there class) (count_of (told g t).graph) t t' a b → told g t' ≡ step (told g t) Fold
    told_fold r s =
        shut_told g v t r Fold t' s.rest refl refl refl refl
        (s.turned.list ∙
        (rule_same (joined_slot there class) (folded_slot (told g t).graph) (count_of (told g t).graph) t.slots.list
        (λ k l.
        let p = there_at k l in
        let m = class_at k l in
        λ i. cond (p i && not (eqb (m i) k)) (Folded (m i)) (slot_of t.slots.list k)) ∙
        ap (slots_by (folded_slot (told g t).graph) (count_of (told g t).graph)) (sym (told_slots g t))))

    pub fold_answer :
        (k : ℕ) →
        k ≡ rounds (told g t).graph →
        Shut (joined_slot there class) (leads there class) (joins there class) (count_of (told g t).graph) t t' a b →
        Merged a b k ≡ answer (told g t) Fold
    fold_answer k e s =
        let left : a ≡ present_count (folded (told g t).graph) =
        s.turned.kept ∙
        (count_same (leads there class) (present (folded (told g t).graph)) (count_of (told g t).graph)
        (λ k l.
        (λ i. there_at k l i && eqb (class_at k l i) k) ∙ sym (folded_present (told g t).graph k)) ∙
        ap (count_below (present (folded (told g t).graph))) (sym (fold_folds (told g t).graph).count)) in
        let gone : b ≡ merged (told g t).graph =
        s.turned.gone ∙
        count_same
        (joins there class)
        (λ k. present (told g t).graph k && not (eqb (rep (told g t).graph k) k))
        (count_of (told g t).graph)
        (λ k l i. there_at k l i && not (eqb (class_at k l i) k)) in
        λ i. Merged (left i) (gone i) (e i)
