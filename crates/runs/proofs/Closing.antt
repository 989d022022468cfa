-- What a sweep and a fold have in common.
use Rattle.std.proofs.Common.{◌≡◌, ℕ, ◌<◌, Bool, true, false, cond, not, ◌&&◌, List, is_some, Some, None, Option, sym, refl, ap, ◌∙◌, subst, ⊎_elim, arith}
use Rattle.std.proofs.lemmas.Bool.{cases_Bool, cond-true, cond-false, and_from, and_left, and_right, not_from_false, not_from_true}
use Rattle.std.proofs.lemmas.List.{get_or_past, ext_get_or}
use Rattle.model.specs.Graph.{Body, Graph, Present, count_of, root_of, root_count_of}
use Rattle.model.specs.Laws.{Valid}
use Rattle.unfolding.specs.Groups.{present}
use Rattle.unfolding.specs.Sections.{Alike, Apart, AllReached}
use Rattle.calls.specs.declared.Slot.{Slot}
use Rattle.calls.specs.declared.Slot.TheVariants.{Untouched, Folded, Swept}
use Rattle.calls.specs.declared.Place.{Place}
use Rattle.calls.specs.declared.Place.TheVariants.{At, Absent, Swept as Nowhere}
use Rattle.runs.specs.State.{State, slot_of, untouched, slots_by, ended, found_at}
use Rattle.runs.proofs.Slots.{slots_at, slots_length, Changed, same, drops, joins, next_place, changed_descends, found_changed}
use Rattle.runs.proofs.Invariant.{Invariant, present_untouched, drawn_present, found_present}

-- what a sweep and a fold have in common: a present section stays or gets a new slot

-- the slot of a section that does not stay
pub data Fate (g : Graph) (stays : ℕ → Bool) (s : ℕ) : Slot → Type 0 where
  dropped : Fate g stays s Swept
  joined : {t : ℕ} → t < s → Present g t → stays t ≡ true → Fate g stays s (Folded t)

fate_touched : {g : Graph} {stays : ℕ → Bool} {s : ℕ} {x : Slot} → Fate g stays s x → untouched x ≡ false
fate_touched dropped = refl
fate_touched (joined l p e) = refl

abbrev pub new_slot : Graph → (ℕ → Bool) → (ℕ → Slot) → ℕ → Slot → Slot
new_slot g stays new s old = cond (present g s && not (stays s)) (new s) old

module _ (g : Graph) (st : State) (a b : Bool) (i : Invariant g st a b) (stays : ℕ → Bool) (new : ℕ → Slot)
    (fate : (s : ℕ) → Present st.graph s → stays s ≡ false → Fate st.graph stays s (new s)) where
  -- the slots after it
  abbrev pub next_slots : List Slot
  next_slots = slots_by (new_slot st.graph stays new) (count_of st.graph) st.slots

  next_at : (s : ℕ) → slot_of next_slots s ≡ new_slot st.graph stays new s (slot_of st.slots s)
  next_at s =
      slots_at
      (new_slot st.graph stays new)
      (count_of st.graph)
      st.slots
      (λ t x h.
      cond-false
      (present st.graph t && not (stays t))
      (new t)
      x
      (and_left (present st.graph t) (not (stays t)) (ap (λ (o : Option Body). is_some o) (get_or_past st.graph.sections t None h))))
      s

  pub next_stays : (s : ℕ) → stays s ≡ true → slot_of next_slots s ≡ slot_of st.slots s
  next_stays s e =
      next_at s ∙
      cond-false
      (present st.graph s && not (stays s))
      (new s)
      (slot_of st.slots s)
      (and_right (present st.graph s) (not (stays s)) (not_from_true (stays s) e))

  pub next_goes : (s : ℕ) → Present st.graph s → stays s ≡ false → slot_of next_slots s ≡ new s
  next_goes s p e =
      next_at s ∙
      cond-true
      (present st.graph s && not (stays s))
      (new s)
      (slot_of st.slots s)
      (and_from (present st.graph s) (not (stays s)) p (not_from_false (stays s) e))

  next_absent : (s : ℕ) → present st.graph s ≡ false → slot_of next_slots s ≡ slot_of st.slots s
  next_absent s e =
      next_at s ∙
      cond-false
      (present st.graph s && not (stays s))
      (new s)
      (slot_of st.slots s)
      (and_left (present st.graph s) (not (stays s)) e)

  -- where every present section stays, nothing happens to the slots
  pub next_same : ((s : ℕ) → Present st.graph s → stays s ≡ true) → next_slots ≡ st.slots
  next_same all =
      ext_get_or
      Untouched
      next_slots
      st.slots
      (slots_length (new_slot st.graph stays new) (count_of st.graph) st.slots (omega (arith, i.long, i.valid.few)))
      (λ s _. ⊎_elim (λ p. next_stays s (all s p)) (λ p. next_absent s p) (cases_Bool (present st.graph s)))

  next_changed : (s : ℕ) → Changed st.slots next_slots s
  next_changed s = go (present st.graph s) (stays s) refl refl
    where
      joining : (x : Slot) → Present st.graph s → Fate st.graph stays s x → slot_of next_slots s ≡ x → Changed st.slots next_slots s
      joining x p dropped e = drops (present_untouched i s p) e
      joining x p (joined {t = t} l q h) e =
          joins t (present_untouched i s p) e l (present_untouched i t q) (next_stays t h ∙ present_untouched i t q)

      go : (p r : Bool) → present st.graph s ≡ p → stays s ≡ r → Changed st.slots next_slots s
      go false r p e = same (next_absent s p)
      go true true p e = same (next_stays s e)
      go true false p e = joining (new s) p (fate s p e) (next_goes s p e)

  -- where a section is found after it
  pub next_found : (s : ℕ) → found_at next_slots s ≡ next_place next_slots (found_at st.slots s)
  next_found s = found_changed st.slots next_slots i.descends next_changed s

  -- where a section that is present in the pile is found after it
  abbrev pub goes_to : ℕ → Place
  goes_to p = ended (slot_of next_slots p) p At

  pub goes_stays : (p : ℕ) → Present st.graph p → stays p ≡ true → goes_to p ≡ At p
  goes_stays p h e = ap (λ (x : Slot). ended x p At) (next_stays p e ∙ present_untouched i p h)

  pub goes_new : (p : ℕ) → Present st.graph p → stays p ≡ false → goes_to p ≡ ended (new p) p At
  goes_new p h e = ap (λ (x : Slot). ended x p At) (next_goes p h e)

  pub closing :
      (next : Graph) (a' b' : Bool) →
      Valid next →
      count_of next ≡ count_of st.graph →
      ((s : ℕ) → present next s ≡ (present st.graph s && stays s)) →
      ((p q : ℕ) → Present st.graph p → goes_to p ≡ At q → Alike next q st.graph p) →
      root_count_of next ≡ root_count_of st.graph →
      ((j p : ℕ) → root_of st.graph j ≡ Some p → (q : ℕ) × (goes_to p ≡ At q) × (root_of next j ≡ Some q)) →
      (b' ≡ true → Apart next) →
      (a' ≡ true → AllReached next) →
      Invariant g
      (record st { graph = next; slots = next_slots; closed = true })
      a'
      b'
  closing next a' b' v c there alike as_many roots apart all =
      record {
        drawn_valid = i.drawn_valid;
        valid = v;
        drawn_count = i.drawn_count;
        count = c ∙ i.count;
        presence = i.presence;
        long =
            slots_length (new_slot st.graph stays new) (count_of st.graph) st.slots
            (omega (arith, i.long, i.valid.few)) ∙
            i.long;
        standing = λ s. there s ∙ stand s;
        descends = changed_descends st.slots next_slots i.descends next_changed;
        blank =
            λ s e.
            next_absent s (i.standing s ∙ and_left (present st.drawn s) (untouched (slot_of st.slots s)) e) ∙
            i.blank s e;
        into = λ s t e. onto s t e (present st.graph s) (stays s) refl refl;
        alike = λ s q p e. moves s q p (found_at st.slots s) refl (sym (next_found s) ∙ e);
        as_many = as_many ∙ i.as_many;
        roots = λ j s e. kept j s (i.roots j s e);
        unchanged =
            λ e.
            let z : ◌≡◌ {A = ℕ} 0 1 = cc in
            absurd (omega arith);
        swept_closed = λ _. refl;
        folded_closed = λ _. refl;
        apart = apart;
        all_reached = all;
      }
    where
      stand : (s : ℕ) → (present st.graph s && stays s) ≡ (present st.drawn s && untouched (slot_of next_slots s))
      stand s = go (present st.graph s) (stays s) refl refl
        where
          go :
              (p r : Bool) →
              present st.graph s ≡ p →
              stays s ≡ r →
              (p && r) ≡ (present st.drawn s && untouched (slot_of next_slots s))
          go false r p e = rw (next_absent s p) (sym p ∙ i.standing s)
          go true true p e = rw (next_stays s e) (sym p ∙ i.standing s)
          go true false p e =
              rw (next_goes s p e)
              (sym (and_right (present st.drawn s) (untouched (new s)) (fate_touched (fate s p e))))

      onto :
          (s t : ℕ) →
          slot_of next_slots s ≡ Folded t →
          (p r : Bool) →
          present st.graph s ≡ p →
          stays s ≡ r →
          Present st.drawn t
      onto s t e false r p h = i.into s t (sym (next_absent s p) ∙ e)
      onto s t e true true p h = i.into s t (sym (next_stays s h) ∙ e)
      onto s t e true false p h = fated (new s) (sym (next_goes s p h) ∙ e) (fate s p h)
        where
          fated : (x : Slot) → x ≡ Folded t → Fate st.graph stays s x → Present st.drawn t
          fated x f dropped =
              let z : ◌≡◌ {A = ℕ} 0 1 = cc in
              absurd (omega arith)
          fated x f (joined {t = w} l q r) =
              let z : w ≡ t = cc in
              subst (λ (y : ℕ). Present st.drawn y) z (drawn_present i w q)

      -- a section found at p before it
      moves :
          (s q : ℕ) →
          Present st.drawn s →
          (x : Place) →
          found_at st.slots s ≡ x →
          next_place next_slots x ≡ At q →
          Alike next q st.drawn s
      moves s q h (At p) f e = λ k. alike p q (found_present i s p h f) e k ∙ i.alike s p h f k
      moves s q h Nowhere f e =
          let z : ◌≡◌ {A = ℕ} 0 1 = cc in
          absurd (omega arith)
      moves s q h Absent f e =
          let z : ◌≡◌ {A = ℕ} 0 1 = cc in
          absurd (omega arith)

      kept :
          (j s : ℕ) →
          (p : ℕ) × (found_at st.slots s ≡ At p) × (root_of st.graph j ≡ Some p) →
          (q : ℕ) × (found_at next_slots s ≡ At q) × (root_of next j ≡ Some q)
      kept j s r =
          let now = roots j r.0 r.2 in
          (now.0, next_found s ∙ (ap (next_place next_slots) r.1 ∙ now.1), now.2)
