-- The promise, from the invariant.
use Rattle.std.proofs.Common.{◌≡◌, ℕ, Bool, true, List, [], ◌∷◌, ◌++◌, Some, sym, refl, ap, ◌∙◌, subst, subst₂}
use Rattle.std.proofs.lemmas.Bool.{eq-eqb}
use Rattle.model.specs.Graph.{Graph, count_of, root_of}
use Rattle.steps.proofs.Nth.{nth_there}
use Rattle.unfolding.specs.Reach.{reached, swept}
use Rattle.unfolding.specs.Sections.{Agree, Alike, rules, rep, folded, Apart}
use Rattle.unfolding.proofs.Rules.{lawful_rules}
use Rattle.unfolding.proofs.Classes.{rep_alike}
use Rattle.folding.proofs.Folded.{rep_present}
use Rattle.folding.proofs.Theorems.{settled}
use Rattle.least.specs.Theorems.{AlikeRoots}
use Rattle.least.proofs.Theorems.{is_least}
use Rattle.calls.specs.declared.Call.{Call}
use Rattle.calls.specs.declared.Call.TheVariants.{Bind, Pin, Root, Sweep, Fold}
use Rattle.calls.specs.declared.Slot.{Slot}
use Rattle.calls.specs.declared.Slot.TheVariants.{Swept}
use Rattle.runs.specs.State.{State, closed_fault, slots_by, swept_slot, folded_slot, step, run, after, start}
use Rattle.runs.specs.Promise.{Placed, RootKept, PromiseStands}
use Rattle.runs.proofs.Invariant.{Invariant, found_present}
use Rattle.runs.proofs.Places.{placed_found, found_placed}
use Rattle.runs.proofs.Closing.{next_same}
use Rattle.runs.proofs.Refusing.{refuses}
use Rattle.runs.proofs.Steps.{after_keeps, root_present, swept_fate, reached_yes, own, joined_to, folded_fate}

module _ (g : Graph) (st : State) (a b : Bool) (i : Invariant g st a b) where
  -- sections that are found at the same number are alike

  pub shared_alike : (s t p q : ℕ) → Placed st s p → Placed st t q → p ≡ q → Alike st.drawn s st.drawn t
  shared_alike s t p q x y e k =
      let f = placed_found st s p x in
      let h = placed_found st t q y in
      sym (i.alike s p f.here f.at k) ∙
      subst (λ (n : ℕ). Agree k st.graph n st.drawn t) (sym e) (i.alike t q h.here h.at k)

  pub alike_shared :
      Apart st.graph → (s t p q : ℕ) → Placed st s p → Placed st t q → Alike st.drawn s st.drawn t → p ≡ q
  alike_shared apart s t p q x y e =
      let f = placed_found st s p x in
      let h = placed_found st t q y in
      apart p q
      (found_present i s p f.here f.at)
      (found_present i t q h.here h.at)
      (λ k. i.alike s p f.here f.at k ∙ (e k ∙ sym (i.alike t q h.here h.at k)))

  pub root_kept : (j s : ℕ) → root_of st.drawn j ≡ Some s → RootKept st j s
  root_kept j s e =
      let h = root_present st.drawn i.drawn_valid j s e in
      let r = i.roots j s e in
      record {
        place = r.0;
        placed = found_placed st s r.0 h r.1;
        rooted = r.2;
        alike = i.alike s r.0 h r.1;
      }

  -- the pile's roots are as those of every graph whose roots are as the drawn graph's
  pub roots_as : (h : Graph) → AlikeRoots st.drawn h → AlikeRoots st.graph h
  roots_as h r =
      record {
        count = i.as_many ∙ r.count;
        alike =
            λ j p t e f k.
            let was = nth_there st.graph.roots st.drawn.roots j p i.as_many e in
            let now = root_kept j was.0 was.1 in
            let there = now.rooted in
            let same : now.place ≡ p = cc in
            subst (λ (x : ℕ). Agree k st.graph x st.drawn was.0) same (now.alike k) ∙
            r.alike j was.0 t was.1 f k;
      }

run_append : (st : State) (cs more : List Call) → run st (cs ++ more) ≡ run (run st cs) more
run_append st [] more = refl
run_append st (c ∷ cs) more = run_append (step st c) cs more

-- once swept and folded, nothing changes

-- a state whose graph and slots are the same and that is closed is the same
same_state :
    (st : State) (next : Graph) (slots : List Slot) →
    next ≡ st.graph →
    slots ≡ st.slots →
    st.closed ≡ true →
    record st { graph = next; slots = slots; closed = true } ≡ st
same_state st next slots e f c =
    λ i. record st { graph = e i; slots = f i; closed = sym c i }

module _ (g : Graph) (st : State) (i : Invariant g st true true) where
  step_settled : (c : Call) → step st c ≡ st
  step_settled (Bind e s) =
      (refuses st).alters_nothing (Bind e s) closed_fault ((refuses st).bind_closed e s (i.swept_closed refl))
  step_settled (Pin s) = (refuses st).alters_nothing (Pin s) closed_fault ((refuses st).pin_closed s (i.swept_closed refl))
  step_settled (Root s) = (refuses st).alters_nothing (Root s) closed_fault ((refuses st).root_closed s (i.swept_closed refl))
  step_settled Sweep =
      same_state st (swept st.graph) (slots_by (swept_slot st.graph) (count_of st.graph) st.slots)
      (settled.sweep st.graph (i.all_reached refl))
      (next_same g st true true i (reached st.graph) (λ _. Swept) (swept_fate st.graph)
      (λ s p. reached_yes st.graph s p (i.all_reached refl s p)))
      (i.swept_closed refl)
  step_settled Fold =
      same_state st (folded st.graph) (slots_by (folded_slot st.graph) (count_of st.graph) st.slots)
      (settled.fold st.graph (i.apart refl))
      (next_same g st true true i (own st.graph) (joined_to st.graph) (folded_fate st.graph)
      (λ s p.
      eq-eqb (rep st.graph s) s
      (i.apart refl (rep st.graph s) s
      (rep_present rules lawful_rules st.graph s p)
      p
      (rep_alike rules lawful_rules st.graph s))))
      (i.swept_closed refl)

  run_settled : (more : List Call) → run st more ≡ st
  run_settled [] = refl
  run_settled (c ∷ cs) = ap (λ (x : State). run x cs) (step_settled c) ∙ run_settled cs

pub promise_stands : PromiseStands
promise_stands g v calls =
    let i = after_keeps g v calls in
    record {
      shares = λ f s t p q _ _ _ x y. (
        shared_alike g (after g calls) _ _ i s t p q x y,
        alike_shared g (after g calls) _ _ i (i.apart f) s t p q x y,
      );
      as_many = i.as_many;
      roots = root_kept g (after g calls) _ _ i;
      least = λ s f h _ r. is_least (after g calls).graph (i.all_reached s) (i.apart f) h (roots_as g (after g calls) _ _ i h r);
      settled =
          λ s f more.
          run_append (start g) calls more ∙
          run_settled g (after g calls) (subst₂ (λ (x y : Bool). Invariant g (after g calls) x y) s f i) more;
    }
