-- The invariant of a pile, and that every call keeps it.
use Rattle.std.proofs.Common.{◌≡◌, ℕ, Bool, true, false, ◌&&◌, ◌⊎◌, List, length, replicate, Some, sym, refl, ap, ◌∙◌, subst, ⊎_elim, arith}
use Rattle.std.proofs.lemmas.Bool.{both_ways, and_parts, and_from}
use Rattle.std.proofs.lemmas.List.{length-replicate}
use Rattle.model.specs.Graph.{Graph, Present, count_of, root_of, root_count_of}
use Rattle.model.specs.Laws.{Valid}
use Rattle.unfolding.specs.Groups.{present}
use Rattle.unfolding.specs.Sections.{Agree, Alike, Apart, AllReached}
use Rattle.calls.specs.declared.Slot.{Slot}
use Rattle.calls.specs.declared.Slot.TheVariants.{Untouched, Folded, Swept}
use Rattle.calls.specs.declared.Place.TheVariants.{At, Swept as Nowhere}
use Rattle.runs.specs.State.{State, slot_of, untouched, found_at}
use Rattle.runs.proofs.Slots.{fresh_at, Descending, found_untouched, Ending, found_cases}

-- what holds of the state after any calls on a new pile over g, where `sweeps` and `folds` say what was among them
pub record Invariant (g : Graph) (st : State) (sweeps folds : Bool) : Type 0 where
  pub drawn_valid : Valid st.drawn
  pub valid : Valid st.graph
  pub drawn_count : count_of st.drawn ≡ count_of g
  pub count : count_of st.graph ≡ count_of g
  pub presence : (s : ℕ) → present st.drawn s ≡ present g s
  pub long : length st.slots ≡ 1024
  -- present are the untouched sections
  pub standing : (s : ℕ) → present st.graph s ≡ (present st.drawn s && untouched (slot_of st.slots s))
  pub descends : Descending st.slots
  -- absent sections are untouched, and nothing is folded into one
  pub blank : (s : ℕ) → present st.drawn s ≡ false → slot_of st.slots s ≡ Untouched
  pub into : (s t : ℕ) → slot_of st.slots s ≡ Folded t → Present st.drawn t
  -- a section unfolds where it is found as in the drawn graph
  pub alike : (s p : ℕ) → Present st.drawn s → found_at st.slots s ≡ At p → Alike st.graph p st.drawn s
  pub as_many : root_count_of st.graph ≡ root_count_of st.drawn
  pub roots :
      (j s : ℕ) → root_of st.drawn j ≡ Some s → (p : ℕ) × (found_at st.slots s ≡ At p) × (root_of st.graph j ≡ Some p)
  -- until a sweep or fold nothing happened
  pub unchanged : st.closed ≡ false → (st.graph ≡ st.drawn) × (st.slots ≡ replicate 1024 Untouched)
  pub swept_closed : sweeps ≡ true → st.closed ≡ true
  pub folded_closed : folds ≡ true → st.closed ≡ true
  pub apart : folds ≡ true → Apart st.graph
  pub all_reached : sweeps ≡ true → AllReached st.graph

-- the flags may say less

pub less :
    {g : Graph} {st : State} {a b : Bool} (a' b' : Bool) →
    (a' ≡ true → a ≡ true) →
    (b' ≡ true → b ≡ true) →
    Invariant g st a b →
    Invariant g st a' b'
less a' b' f h i =
    record {
      drawn_valid = i.drawn_valid;
      valid = i.valid;
      drawn_count = i.drawn_count;
      count = i.count;
      presence = i.presence;
      long = i.long;
      standing = i.standing;
      descends = i.descends;
      blank = i.blank;
      into = i.into;
      alike = i.alike;
      as_many = i.as_many;
      roots = i.roots;
      unchanged = i.unchanged;
      swept_closed = λ e. i.swept_closed (f e);
      folded_closed = λ e. i.folded_closed (h e);
      apart = λ e. i.apart (h e);
      all_reached = λ e. i.all_reached (f e);
    }

-- an open pile

abbrev pub opened : Graph → List ℕ → ℕ → State
opened d names n =
    record { drawn = d; graph = d; slots = replicate 1024 Untouched; bound = names; added = n; closed = false }

pub fresh :
    (g d : Graph) (names : List ℕ) (n : ℕ) (a b : Bool) →
    Valid d →
    count_of d ≡ count_of g →
    ((s : ℕ) → present d s ≡ present g s) →
    (a ≡ true → ⊥) →
    (b ≡ true → ⊥) →
    Invariant g (opened d names n) a b
fresh g d names n a b v c p no-a no-b =
    record {
      drawn_valid = v;
      valid = v;
      drawn_count = c;
      count = c;
      presence = p;
      long = length-replicate 1024 Untouched;
      standing = λ s. and_true (present d s) (ap untouched (fresh_at 1024 s));
      descends = λ s t e. absurd (apart s t e);
      blank = λ s e. fresh_at 1024 s;
      into = λ s t e. absurd (apart s t e);
      alike = λ s q h e k. subst (λ (x : ℕ). Agree k d x d s) (own s q e) refl;
      as_many = refl;
      roots = λ j s e. (s, found_untouched (replicate 1024 Untouched) s (fresh_at 1024 s), e);
      unchanged = λ _. (refl, refl);
      swept_closed = λ e. absurd (no-a e);
      folded_closed = λ e. absurd (no-b e);
      apart = λ e. absurd (no-b e);
      all_reached = λ e. absurd (no-a e);
    }
  where
    and_true : (x : Bool) {y : Bool} → y ≡ true → x ≡ (x && y)
    and_true true h = sym h
    and_true false h = refl

    apart : (s t : ℕ) → slot_of (replicate 1024 Untouched) s ≡ Folded t → ⊥
    apart s t e =
        let f = fresh_at 1024 s in
        let z : ◌≡◌ {A = ℕ} 0 1 = cc in
        omega arith

    own : (s q : ℕ) → found_at (replicate 1024 Untouched) s ≡ At q → s ≡ q
    own s q e =
        let f = found_untouched (replicate 1024 Untouched) s (fresh_at 1024 s) in
        cc

-- a state that looks like it
pub open_again :
    (g : Graph) (st : State) (a b : Bool) →
    st.closed ≡ false →
    st.graph ≡ st.drawn →
    st.slots ≡ replicate 1024 Untouched →
    Valid st.drawn →
    count_of st.drawn ≡ count_of g →
    ((s : ℕ) → present st.drawn s ≡ present g s) →
    (a ≡ true → ⊥) →
    (b ≡ true → ⊥) →
    Invariant g st a b
open_again g st a b shut graph slots v c p no-a no-b =
    let same : opened st.drawn st.bound st.added ≡ st =
    λ i. record st { graph = sym graph i; slots = sym slots i; closed = sym shut i } in
    subst (λ (x : State). Invariant g x a b) same (fresh g st.drawn st.bound st.added a b v c p no-a no-b)

-- a present section is untouched, and present in the drawn graph

pub present_untouched : {g : Graph} {st : State} {a b : Bool} → Invariant g st a b → (s : ℕ) → Present st.graph s → slot_of st.slots s ≡ Untouched
present_untouched {g} {st} i s p =
    go
    (slot_of st.slots s)
    (and_parts (present st.drawn s) (untouched (slot_of st.slots s)) (sym (i.standing s) ∙ p)).1
  where
    go : (x : Slot) → untouched x ≡ true → x ≡ Untouched
    go Untouched e = refl
    go (Folded t) e = absurd (both_ways false refl e)
    go Swept e = absurd (both_ways false refl e)

pub drawn_present : {g : Graph} {st : State} {a b : Bool} → Invariant g st a b → (s : ℕ) → Present st.graph s → Present st.drawn s
drawn_present {g} {st} i s p =
    (and_parts (present st.drawn s) (untouched (slot_of st.slots s)) (sym (i.standing s) ∙ p)).0

-- a present section is found somewhere, or was swept

pub ends : {g : Graph} {st : State} {a b : Bool} → Invariant g st a b → (s : ℕ) → Present st.drawn s → ((p : ℕ) × Ending st.slots (Present st.drawn) s p) ⊎ (found_at st.slots s ≡ Nowhere)
ends {g} {st} i s h = found_cases st.slots i.descends (Present st.drawn) i.into s h

pub ending : {g : Graph} {st : State} {a b : Bool} → Invariant g st a b → (s p : ℕ) → Present st.drawn s → found_at st.slots s ≡ At p → Ending st.slots (Present st.drawn) s p
ending {g} {st} i s p h e =
    ⊎_elim
    (λ (r : (q : ℕ) × Ending st.slots (Present st.drawn) s q).
    let f = r.1.found in
    let z : r.0 ≡ p = cc in
    subst (λ (x : ℕ). Ending st.slots (Present st.drawn) s x) z r.1)
    (λ f.
    let z : ◌≡◌ {A = ℕ} 0 1 = cc in
    absurd (omega arith))
    (ends i s h)

pub found_present : {g : Graph} {st : State} {a b : Bool} → Invariant g st a b → (s p : ℕ) → Present st.drawn s → found_at st.slots s ≡ At p → Present st.graph p
found_present {g} {st} i s p h e =
    let f = ending i s p h e in
    i.standing p ∙ and_from (present st.drawn p) (untouched (slot_of st.slots p)) f.holds (ap untouched f.untouched)
