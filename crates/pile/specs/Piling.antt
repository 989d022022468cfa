-- What each call does to a sound pile.
use Rattle.std.specs.Prelude.{◌≡◌, ℕ, ◌<◌, ◌≤◌, Bool, List, length, take, Some, None, Ok, Err, Option, Result, refl}
use Rattle.std.proofs.Common.{sym, ap, subst, ◌∙◌}
use Rattle.std.proofs.Math.Logic.{∥∥₁_elim, ∥∥₁_prop}
use Rattle.std.proofs.lemmas.List.{take_all}
use Rattle.arrayvec.specs.ArrayVec.{array_vec_len}
use Rattle.fault.specs.declared.Fault.{Fault}
use Rattle.fault.specs.Refusal.{ok_unless}
use Rattle.model.specs.Graph.{Graph, count_of, root_count_of}
use Rattle.model.specs.Laws.{Valid}
use Rattle.steps.specs.Below.{table}
use Rattle.unfolding.specs.Groups.{present}
use Rattle.unfolding.specs.Reach.{reached}
use Rattle.unfolding.specs.Sections.{rep, rounds}
use Rattle.calls.specs.declared.Call.{Call}
use Rattle.calls.specs.declared.Call.TheVariants.{Bind, Pin, Root, Sweep, Fold}
use Rattle.calls.specs.declared.Answer.{Answer}
use Rattle.calls.specs.declared.Answer.TheVariants.{Accepted, Refused, Dropped, Merged}
use Rattle.runs.specs.State.{start, refusal, moved, unless, step, refused_or, answered, answer, after}
use Rattle.slots.specs.Turns.{stays, drops, dropped_slot, leads, joins, joined_slot}
use Rattle.ledger.specs.declared.Ledger.{Ledger}
use Rattle.ledger.specs.Edits.{fresh, Bounds, with_bind, with_pin, with_root, Shut}
use Rattle.ledger.specs.Told.{told, Reachable, Kept}
use Rattle.ledger.proofs.OneProof.{State-set, Valid-prop}
use Rattle.ledger.proofs.Telling.{told_fresh, fresh_reachable, told_tells, told_kept, step_reachable, step_kept, bind_refusal, pin_refusal, root_refusal, bind_room, pin_there, root_room, small, told_bind, told_pin, told_root, bind_bounds, pin_bounds, root_bounds, shut_bounds, there, marks, class, few, told_sweep, sweep_answer, told_fold, fold_answer}
use Rattle.pile.specs.Does.{Sound, Does, Checked}

-- the laws hold of the pile's graph
pub pile_valid : (g : Graph) → Valid g → (t : Ledger) → Sound g t → Valid (told g t).graph
pile_valid g v t sound = ∥∥₁_elim sound (Valid-prop (told g t).graph) (λ r. (told_tells g v t r).valid)

-- nothing was called on a new pile

pub fresh_told : (g : Graph) (t : Ledger) → t ≡ fresh → told g t ≡ start g
fresh_told g t e = ap (told g) e ∙ told_fresh g

pub fresh_reached : (g : Graph) (t : Ledger) → t ≡ fresh → Reachable g t
fresh_reached g t e = subst (Reachable g) (sym e) (fresh_reachable g)

pub fresh_sound : (g : Graph) (t : Ledger) → t ≡ fresh → Sound g t
fresh_sound g t e = ∣ fresh_reached g t e ∣₁

-- the inner table after a call is one that calls led to again, and the call does what it should
pub record Done (g : Graph) (t t' : Ledger) (c : Call) (a : Answer) : Type 0 where
  pub sound : Sound g t'
  pub does : Does g t t' c a

module _ (g : Graph) (v : Valid g) (t : Ledger) (sound : Sound g t) where
  done :
      (c : Call) (a : Answer) (t' : Ledger) →
      (Reachable g t → Bounds t') →
      (Reachable g t → told g t' ≡ step (told g t) c) →
      a ≡ answer (told g t) c →
      Done g t t' c a
  done c a t' b e h =
      let same : told g t' ≡ step (told g t) c = ∥∥₁_elim sound (State-set (told g t') (step (told g t) c)) e in
      record {
        sound = ∥∥₁_elim sound ∥∥₁_prop (λ r. ∣ step_reachable g t r c t' (e r) (b r) ∣₁);
        does = record { state = same; answer = h; reachable = λ r. step_reachable g t r c t' same (b r); promise = step_kept g v t c t' same };
      }

  -- a refused call
  pub refused_done : (c : Call) (f : Fault) → refusal (told g t) c ≡ Some f → Does g t t c (Refused f)
  refused_done c f e =
      let same : told g t ≡ step (told g t) c =
      sym (ap (λ (o : Option Fault). unless o (told g t) (moved (told g t) c)) e) in
      record {
        state = same;
        answer = sym (ap (λ (o : Option Fault). refused_or o (answered (told g t) c)) e);
        reachable = λ r. step_reachable g t r c t same r.bounds;
        promise = step_kept g v t c t same;
      }

  pub checked : (c : Call) (o : Option Fault) (x : Result (Unit {0}) Fault) → o ≡ refusal (told g t) c → x ≡ ok_unless o tt → Checked g t c x
  checked c None (Ok u) h e = sym h
  checked c None (Err f) h e = absurd cc
  checked c (Some f) (Ok u) h e = absurd cc
  checked c (Some f) (Err f') h e = let same : f' ≡ f = cc in refused_done c f' (sym h ∙ ap (λ (y : Fault). Some y) (sym same))

  accepts : (c : Call) → answered (told g t) c ≡ Accepted → refusal (told g t) c ≡ None → Accepted ≡ answer (told g t) c
  accepts c a e = sym (ap (λ (o : Option Fault). refused_or o (answered (told g t) c)) e ∙ a)

  -- accepted ones

  pub bind_fits : (e s : ℕ) → refusal (told g t) (Bind e s) ≡ None → array_vec_len t.binds < 64
  bind_fits e s none = bind_room t (present g s) e s (sym (bind_refusal g t e s) ∙ none)

  pub bind_done : (e s : ℕ) → refusal (told g t) (Bind e s) ≡ None → (t' : Ledger) → t' ≡ with_bind t e s → Done g t t' (Bind e s) Accepted
  bind_done e s none t' made =
      subst (λ (x : Ledger). Done g t x (Bind e s) Accepted) (sym made)
      (done (Bind e s) Accepted (with_bind t e s)
      (λ r. bind_bounds t e s r.bounds (bind_fits e s none))
      (λ r. told_bind g v t r e s none)
      (accepts (Bind e s) refl none))

  pub pin_fits : (s : ℕ) → refusal (told g t) (Pin s) ≡ None → s < 1024
  pin_fits s none = small g v s (pin_there t (present g s) s (sym (pin_refusal g t s) ∙ none))

  pub pin_done : (s : ℕ) → refusal (told g t) (Pin s) ≡ None → (t' : Ledger) → t' ≡ with_pin t s → Done g t t' (Pin s) Accepted
  pin_done s none t' made =
      subst (λ (x : Ledger). Done g t x (Pin s) Accepted) (sym made)
      (done (Pin s) Accepted (with_pin t s)
      (λ r. pin_bounds t s r.bounds)
      (λ r. told_pin g v t r s none (pin_fits s none))
      (accepts (Pin s) refl none))

  pub root_fits : (s : ℕ) → refusal (told g t) (Root s) ≡ None → array_vec_len t.roots < 64
  root_fits s none = root_room t (present g s) (root_count_of g) s (sym (root_refusal g t s) ∙ none)

  pub root_done : (s : ℕ) → refusal (told g t) (Root s) ≡ None → (t' : Ledger) → t' ≡ with_root t s → Done g t t' (Root s) Accepted
  root_done s none t' made =
      subst (λ (x : Ledger). Done g t x (Root s) Accepted) (sym made)
      (done (Root s) Accepted (with_root t s)
      (λ r. root_bounds t s r.bounds (root_fits s none))
      (λ r. told_root g v t r s none)
      (accepts (Root s) refl none))

  -- a sweep by the marks of the reached sections, and a fold by the classes of the representatives

  pub sweep_done :
      (xs ys : List Bool) (n : ℕ) (t' : Ledger) (a b : ℕ) →
      xs ≡ table (present (told g t).graph) 1024 →
      ys ≡ table (reached (told g t).graph) 1024 →
      n ≡ count_of (told g t).graph →
      Shut (dropped_slot xs ys) (stays xs ys) (drops xs ys) n t t' a b →
      Done g t t' Sweep (Dropped a b)
  sweep_done xs ys n t' a b ex ey en s =
      let one = subst (λ (zs : List Bool). Shut (dropped_slot zs ys) (stays zs ys) (drops zs ys) n t t' a b) ex s in
      let two =
      subst
      (λ (zs : List Bool). Shut (dropped_slot (there g v t) zs) (stays (there g v t) zs) (drops (there g v t) zs) n t t' a b)
      ey
      one in
      let three =
      subst
      (λ (k : ℕ).
      Shut
      (dropped_slot (there g v t) (marks g v t))
      (stays (there g v t) (marks g v t))
      (drops (there g v t) (marks g v t))
      k
      t
      t'
      a
      b)
      en
      two in
      done Sweep (Dropped a b) t'
      (λ r. shut_bounds (few g v t) r.bounds three)
      (λ r. told_sweep g v t t' a b r three)
      (sweep_answer g v t t' a b three)

  pub fold_done :
      (xs : List Bool) (ys : List ℕ) (n k : ℕ) (t' : Ledger) (a b : ℕ) →
      xs ≡ table (present (told g t).graph) 1024 →
      ys ≡ table (rep (told g t).graph) 1024 →
      n ≡ count_of (told g t).graph →
      k ≡ rounds (told g t).graph →
      Shut (joined_slot xs ys) (leads xs ys) (joins xs ys) n t t' a b →
      Done g t t' Fold (Merged a b k)
  fold_done xs ys n k t' a b ex ey en ek s =
      let one = subst (λ (zs : List Bool). Shut (joined_slot zs ys) (leads zs ys) (joins zs ys) n t t' a b) ex s in
      let two =
      subst
      (λ (zs : List ℕ). Shut (joined_slot (there g v t) zs) (leads (there g v t) zs) (joins (there g v t) zs) n t t' a b)
      ey
      one in
      let three =
      subst
      (λ (m : ℕ).
      Shut
      (joined_slot (there g v t) (class g v t))
      (leads (there g v t) (class g v t))
      (joins (there g v t) (class g v t))
      m
      t
      t'
      a
      b)
      en
      two in
      done Fold (Merged a b k) t'
      (λ r. shut_bounds (few g v t) r.bounds three)
      (λ r. told_fold g v t t' a b r three)
      (fold_answer g v t t' a b k ek three)

-- a list of calls on a new pile, all done
pub run_all : (g : Graph) → Valid g → (t : Ledger) (calls : List Call) (i : ℕ) → length calls ≤ i → told g t ≡ after g (take i calls) → Kept g calls (told g t)
run_all g v t calls i h led = told_kept g v t calls (led ∙ ap (after g) (take_all i calls h))
