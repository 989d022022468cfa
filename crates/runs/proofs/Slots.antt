-- Slots: what is at a number after they are made anew, and where following them ends.
use Rattle.std.proofs.Common.{◌≡◌, ℕ, zero, suc, ◌+◌, ◌-◌, ◌<◌, ◌≤◌, ◌⊎◌, List, length, drop, replicate, sym, refl, ap, ◌∙◌, inl, inr, ⊎_elim, arith}
use Rattle.std.proofs.lemmas.Bool.{cases_lt}
use Rattle.std.proofs.lemmas.List.{get_or_append_left, get_or-append_right, get_or-drop, get_or_past, get_or-replicate, length-append, length-drop, length-replicate}
use Rattle.steps.specs.Below.{table}
use Rattle.steps.proofs.Below.{table_at, table_length}
use Rattle.calls.specs.declared.Slot.{Slot}
use Rattle.calls.specs.declared.Slot.TheVariants.{Untouched, Folded, Swept}
use Rattle.calls.specs.declared.Place.{Place}
use Rattle.calls.specs.declared.Place.TheVariants.{At, Absent, Swept as Nowhere}
use Rattle.runs.specs.State.{slot_of, slots_by, ended, followed, found_at}

slots_in : (f : ℕ → Slot → Slot) (n : ℕ) (slots : List Slot) (s : ℕ) → s < n → slot_of (slots_by f n slots) s ≡ f s (slot_of slots s)
slots_in f n slots s h =
    let h' : s < length (table (λ s. f s (slot_of slots s)) n) = rw (table_length (λ s. f s (slot_of slots s)) n) h in
    get_or_append_left (table (λ s. f s (slot_of slots s)) n) (drop n slots) Untouched s h' ∙
    table_at (λ s. f s (slot_of slots s)) n s Untouched h

slots_past :
    (f : ℕ → Slot → Slot) (n : ℕ) (slots : List Slot) (s : ℕ) → n ≤ s → slot_of (slots_by f n slots) s ≡ slot_of slots s
slots_past f n slots s h =
    let e : n + (s - n) ≡ s = omega arith in
    get_or-append_right
    (table (λ s. f s (slot_of slots s)) n)
    (drop n slots)
    n
    s
    Untouched
    (table_length (λ s. f s (slot_of slots s)) n)
    h ∙
    get_or-drop n slots (s - n) Untouched ∙
    ap (slot_of slots) e

-- each slot is made anew by the rule, where the rule leaves those past n alone
pub slots_at :
    (f : ℕ → Slot → Slot) (n : ℕ) (slots : List Slot) →
    ((s : ℕ) (x : Slot) → n ≤ s → f s x ≡ x) →
    (s : ℕ) →
    slot_of (slots_by f n slots) s ≡ f s (slot_of slots s)
slots_at f n slots past s =
    ⊎_elim
    (λ h. slots_in f n slots s h)
    (λ h. slots_past f n slots s h ∙ sym (past s (slot_of slots s) h))
    (cases_lt s n)

pub slots_length :
    (f : ℕ → Slot → Slot) (n : ℕ) (slots : List Slot) → n ≤ length slots → length (slots_by f n slots) ≡ length slots
slots_length f n slots h =
    simp (length-append, length-drop) (rw (table_length (λ s. f s (slot_of slots s)) n) (omega arith))

pub fresh_at : (n s : ℕ) → slot_of (replicate n Untouched) s ≡ Untouched
fresh_at n s =
    ⊎_elim
    (λ h. get_or-replicate n s Untouched Untouched h)
    (λ h. get_or_past (replicate n Untouched) s Untouched (rw (length-replicate n Untouched) h))
    (cases_lt s n)

-- a section is folded into a lower one
abbrev pub Descending : List Slot → Type 0
Descending slots = (s t : ℕ) → slot_of slots s ≡ Folded t → t < s

pub found_untouched : (slots : List Slot) (s : ℕ) → slot_of slots s ≡ Untouched → found_at slots s ≡ At s
found_untouched slots s e = rw e

pub found_swept : (slots : List Slot) (s : ℕ) → slot_of slots s ≡ Swept → found_at slots s ≡ Nowhere
found_swept slots s e = rw e

-- more slots than s + 1 are not needed
followed_enough : (slots : List Slot) → Descending slots → (k m s : ℕ) → s < k → s < m → followed k slots s ≡ followed m slots s
followed_enough slots d zero m s h h' = absurd (omega arith)
followed_enough slots d (suc k) zero s h h' = absurd (omega arith)
followed_enough slots d (suc k) (suc m) s h h' = go (slot_of slots s) refl (λ t l l'. followed_enough slots d k m t l l')
  where
    go :
        (x : Slot) →
        slot_of slots s ≡ x →
        ((t : ℕ) → t < k → t < m → followed k slots t ≡ followed m slots t) →
        ended x s (followed k slots) ≡ ended x s (followed m slots)
    go Untouched e ih = refl
    go (Folded t) e ih =
        let l : t < s = d s t e in
        ih t (omega arith) (omega arith)
    go Swept e ih = refl

-- a folded section is found where the other is
pub found_folded : (slots : List Slot) → Descending slots → (s t : ℕ) → slot_of slots s ≡ Folded t → found_at slots s ≡ found_at slots t
found_folded slots d s t e =
    let l : t < s = d s t e in
    let h : followed s slots t ≡ found_at slots t = followed_enough slots d s (suc t) t l (omega arith) in
    rw e h

-- where following ends: at an untouched section that is not above, of which holds what holds of s and of all that is folded into
pub record Ending (slots : List Slot) (P : ℕ → Type 0) (s p : ℕ) : Type 0 where
  pub found : found_at slots s ≡ At p
  pub below : p ≤ s
  pub untouched : slot_of slots p ≡ Untouched
  pub holds : P p

pub found_cases :
    (slots : List Slot) →
    Descending slots →
    (P : ℕ → Type 0) →
    ((s t : ℕ) → slot_of slots s ≡ Folded t → P t) →
    (s : ℕ) →
    P s →
    ((p : ℕ) × Ending slots P s p) ⊎ (found_at slots s ≡ Nowhere)
found_cases slots d P into s h = upto (suc s) s (omega arith) h
  where
    go :
        (k s : ℕ) →
        s < suc k →
        P s →
        ((t : ℕ) → t < k → P t → ((p : ℕ) × Ending slots P t p) ⊎ (found_at slots t ≡ Nowhere)) →
        (x : Slot) →
        slot_of slots s ≡ x →
        ((p : ℕ) × Ending slots P s p) ⊎ (found_at slots s ≡ Nowhere)
    go k s l h ih Untouched e =
        inl (s, record { found = found_untouched slots s e; below = omega arith; untouched = e; holds = h })
    go k s l h ih (Folded t) e =
        let less : t < s = d s t e in
        let same : found_at slots s ≡ found_at slots t = found_folded slots d s t e in
        ⊎_elim
        (λ r.
        inl (
          r.0,
          record {
            found = same ∙ r.1.found;
            below = omega (arith, r.1.below);
            untouched = r.1.untouched;
            holds = r.1.holds;
          },
        ))
        (λ r. inr (same ∙ r))
        (ih t (omega arith) (into s t e))
    go k s l h ih Swept e = inr (found_swept slots s e)

    upto : (k s : ℕ) → s < k → P s → ((p : ℕ) × Ending slots P s p) ⊎ (found_at slots s ≡ Nowhere)
    upto zero s l h = absurd (omega arith)
    upto (suc k) s l h = go k s l h (upto k) (slot_of slots s) refl

-- what a sweep or fold does to one slot: nothing; or an untouched one is swept, or folded into a lower one that was and stays untouched
pub data Changed (old new : List Slot) (s : ℕ) : Type 0 where
  same : slot_of new s ≡ slot_of old s → Changed old new s
  drops : slot_of old s ≡ Untouched → slot_of new s ≡ Swept → Changed old new s
  joins :
      (t : ℕ) →
      slot_of old s ≡ Untouched →
      slot_of new s ≡ Folded t →
      t < s →
      slot_of old t ≡ Untouched →
      slot_of new t ≡ Untouched →
      Changed old new s

-- where a section is found after it, from where it was found before
abbrev pub next_place : List Slot → Place → Place
next_place new (At p) = ended (slot_of new p) p At
next_place new Nowhere = Nowhere
next_place new Absent = Absent

pub changed_descends : (old new : List Slot) → Descending old → ((s : ℕ) → Changed old new s) → Descending new
changed_descends old new d each s t e = go (each s)
  where
    go : Changed old new s → t < s
    go (same h) = d s t (sym h ∙ e)
    go (drops h h') =
        let z : ◌≡◌ {A = ℕ} 0 1 = cc in
        omega arith
    go (joins u h h' l k k') =
        let z : u ≡ t = cc in
        omega arith

pub found_changed :
    (old new : List Slot) →
    Descending old →
    ((s : ℕ) → Changed old new s) →
    (s : ℕ) →
    found_at new s ≡ next_place new (found_at old s)
found_changed old new d each s = upto (suc s) s (omega arith)
  where
    d' : Descending new
    d' = changed_descends old new d each

    Goal : ℕ → Type 0
    Goal s = found_at new s ≡ next_place new (found_at old s)

    from_untouched : (s : ℕ) → slot_of old s ≡ Untouched → Changed old new s → Goal s
    from_untouched s e (same h) =
        let q : next_place new (found_at old s) ≡ At s = rw (found_untouched old s e, h ∙ e) in
        found_untouched new s (h ∙ e) ∙ sym q
    from_untouched s e (drops h h') =
        let q : next_place new (found_at old s) ≡ Nowhere = rw (found_untouched old s e, h') in
        found_swept new s h' ∙ sym q
    from_untouched s e (joins t h h' l k k') =
        let q : next_place new (found_at old s) ≡ At t = rw (found_untouched old s e, h') in
        found_folded new d' s t h' ∙ found_untouched new t k' ∙ sym q

    stays : (s : ℕ) (x : Slot) → (x ≡ Untouched → ⊥) → slot_of old s ≡ x → Changed old new s → slot_of new s ≡ x
    stays s x apart e (same h) = h ∙ e
    stays s x apart e (drops h h') = absurd (apart (sym e ∙ h))
    stays s x apart e (joins t h h' l k k') = absurd (apart (sym e ∙ h))

    go : (k s : ℕ) → s < suc k → ((t : ℕ) → t < k → Goal t) → (x : Slot) → slot_of old s ≡ x → Goal s
    go k s l ih Untouched e = from_untouched s e (each s)
    go k s l ih (Folded t) e =
        let less : t < s = d s t e in
        let apart : Folded t ≡ Untouched → ⊥ = λ p.
        let z : ◌≡◌ {A = ℕ} 0 1 = cc in
        omega arith
        in
        let h : found_at new s ≡ found_at new t = found_folded new d' s t (stays s (Folded t) apart e (each s)) in
        h ∙ ih t (omega arith) ∙ ap (next_place new) (sym (found_folded old d s t e))
    go k s l ih Swept e =
        let apart : Swept ≡ Untouched → ⊥ = λ p.
        let z : ◌≡◌ {A = ℕ} 0 1 = cc in
        omega arith
        in
        found_swept new s (stays s Swept apart e (each s)) ∙ ap (next_place new) (sym (found_swept old s e))

    upto : (k s : ℕ) → s < k → Goal s
    upto zero s l = absurd (omega arith)
    upto (suc k) s l = go k s l (upto k) (slot_of old s) refl
