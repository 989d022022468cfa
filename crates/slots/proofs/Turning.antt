-- One slot more made anew.
use Rattle.std.proofs.Common.{◌≡◌, ℕ, suc, ◌+◌, ◌-◌, ◌<◌, Bool, true, false, cond, not, ◌&&◌, eqb, List, [], ◌∷◌, ◌++◌, Some, None, Option, is_some, is_none, unwrap_or, length, get_or, drop, set, sym, refl, ap, ◌∙◌, append_assoc, add-one, arith}
use Rattle.std.proofs.lemmas.List.{drop_more, set_at}
use Rattle.std.proofs.lemmas.Bool.{and_left, and_right, and_from, cond-true, cond-false}
use Rattle.std.proofs.lemmas.List.FromFn.{map-range_with_len_more}
use Rattle.calls.specs.declared.Slot.{Slot}
use Rattle.calls.specs.declared.Slot.TheVariants.{Untouched, Folded, Swept}
use Rattle.steps.specs.Below.{count_below, table}
use Rattle.steps.proofs.Below.{table_length}
use Rattle.steps.proofs.Count.{count_yes, count_no}
use Rattle.runs.specs.State.{slot_of, slots_by, ended, followed}
use Rattle.slots.specs.declared.Slots.{Slots}
use Rattle.slots.specs.Turns.{stays, drops, dropped_slot, leads, joins, joined_slot, stays_by, goes_by, slot_by, sweep_rule, fold_rule, Turned}

-- a folded section is found where the other one is
pub followed_folded : (slots : List Slot) (n at k t : ℕ) → k < n → slot_of slots at ≡ Folded t → followed (n - (k + 1)) slots t ≡ followed (n - k) slots at
followed_folded slots n at k t h e =
    let z : n - k ≡ suc (n - (k + 1)) = omega arith in
    sym (ap (λ (m : ℕ). followed m slots at) z ∙ ap (λ (y : Slot). ended y at (followed (n - (k + 1)) slots)) e)

-- slots made anew

split_more : (f : ℕ → Slot → Slot) (s : ℕ) (slots : List Slot) → slots_by f (s + 1) slots ≡ table (λ t. f t (slot_of slots t)) s ++ (f s (slot_of slots s) ∷ drop (s + 1) slots)
split_more f s slots =
    ap (λ (xs : List Slot). xs ++ drop (s + 1) slots) (map-range_with_len_more (λ t. f t (slot_of slots t)) 0 s s (omega arith)) ∙
    append_assoc (table (λ t. f t (slot_of slots t)) s) (f s (slot_of slots s) ∷ []) (drop (s + 1) slots)

split_here : (f : ℕ → Slot → Slot) (s : ℕ) (slots : List Slot) → s < length slots → slots_by f s slots ≡ table (λ t. f t (slot_of slots t)) s ++ (slot_of slots s ∷ drop (s + 1) slots)
split_here f s slots h =
    ap (λ (xs : List Slot). table (λ t. f t (slot_of slots t)) s ++ xs) (drop_more slots s Untouched h)

same_more : (f : ℕ → Slot → Slot) (s : ℕ) (slots : List Slot) → s < length slots → f s (slot_of slots s) ≡ slot_of slots s → slots_by f (s + 1) slots ≡ slots_by f s slots
same_more f s slots h e =
    split_more f s slots ∙
    (ap (λ (x : Slot). table (λ t. f t (slot_of slots t)) s ++ (x ∷ drop (s + 1) slots)) e ∙ sym (split_here f s slots h))

new_more : (f : ℕ → Slot → Slot) (s : ℕ) (slots : List Slot) (x : Slot) → s < length slots → f s (slot_of slots s) ≡ x → slots_by f (s + 1) slots ≡ set (slots_by f s slots) s x
new_more f s slots x h e =
    split_more f s slots ∙
    (ap (λ (y : Slot). table (λ t. f t (slot_of slots t)) s ++ (y ∷ drop (s + 1) slots)) e ∙
    sym
    (ap (λ (xs : List Slot). set xs s x) (split_here f s slots h) ∙
    set_at
    (table (λ t. f t (slot_of slots t)) s)
    (slot_of slots s)
    (drop (s + 1) slots)
    x
    s
    (table_length (λ t. f t (slot_of slots t)) s)))

module _ (f : ℕ → Slot → Slot) (p q : ℕ → Bool) (n : ℕ) (old : Slots) (full : length old.list ≡ 1024) (small : n < 1024) (new : Slots) (a b : ℕ) (t : Turned f p q n old new a b) where
  none : (r : ℕ → Bool) → r n ≡ false → (c : ℕ) → c ≡ count_below r n → c ≡ count_below r (n + 1)
  none r e c h = rw (add-one n, count_no r n e) h

  one : (r : ℕ → Bool) → r n ≡ true → (c : ℕ) → c ≡ count_below r n → c + 1 ≡ count_below r (n + 1)
  one r e c h = rw (add-one n, add-one c, count_yes r n e) (ap suc h)

  -- a section that is not there
  pub turn_absent : p n ≡ false → q n ≡ false → f n (slot_of old.list n) ≡ slot_of old.list n → Turned f p q (n + 1) old new a b
  turn_absent e h same =
      record {
        list = t.list ∙ sym (same_more f n old.list (omega arith) same);
        kept = none p e a t.kept;
        gone = none q h b t.gone;
      }

  -- one that stays
  pub turn_stays : p n ≡ true → q n ≡ false → f n (slot_of old.list n) ≡ slot_of old.list n → Turned f p q (n + 1) old new (a + 1) b
  turn_stays e h same =
      record {
        list = t.list ∙ sym (same_more f n old.list (omega arith) same);
        kept = one p e a t.kept;
        gone = none q h b t.gone;
      }

  -- one that goes
  pub turn_goes : (x : Slot) (next : Slots) → next.list ≡ set new.list n x → p n ≡ false → q n ≡ true → f n (slot_of old.list n) ≡ x → Turned f p q (n + 1) old next a (b + 1)
  turn_goes x next made e h same =
      record {
        list =
            made ∙
            (ap (λ (xs : List Slot). set xs n x) t.list ∙ sym (new_more f n old.list x (omega arith) same));
        kept = none p e a t.kept;
        gone = one q h b t.gone;
      }

-- the same slots and counts under other names
as_now :
    {f : ℕ → Slot → Slot} {p q : ℕ → Bool} {n : ℕ} {old new : Slots} {a b : ℕ} (next : Slots) (a' b' : ℕ) →
    next ≡ new →
    a' ≡ a →
    b' ≡ b →
    Turned f p q n old new a b →
    Turned f p q n old next a' b'
as_now next a' b' e ea eb t =
    record { list = ap (λ (x : Slots). x.list) e ∙ t.list; kept = ea ∙ t.kept; gone = eb ∙ t.gone }

-- one turn, by a rule

module _ (there : List Bool) (rule : ℕ → Option Slot) (n : ℕ) (old : Slots) (full : length old.list ≡ 1024) (small : n < 1024) (new : Slots) (a b : ℕ)
    (t : Turned (slot_by there rule) (stays_by there rule) (goes_by there rule) n old new a b) (next : Slots) (a' b' : ℕ) where
  pub by_absent : get_or there n false ≡ false → next ≡ new → a' ≡ a → b' ≡ b → Turned (slot_by there rule) (stays_by there rule) (goes_by there rule) (n + 1) old next a' b'
  by_absent e x y z =
      as_now next a' b' x y z
      (turn_absent (slot_by there rule) (stays_by there rule) (goes_by there rule) n old full small new a b t
      (and_left (get_or there n false) (is_none (rule n)) e)
      (and_left (get_or there n false) (is_some (rule n)) e)
      (cond-false (get_or there n false) (unwrap_or (rule n) (slot_of old.list n)) (slot_of old.list n) e))

  pub by_stays : get_or there n false ≡ true → rule n ≡ None → next ≡ new → a' ≡ a + 1 → b' ≡ b → Turned (slot_by there rule) (stays_by there rule) (goes_by there rule) (n + 1) old next a' b'
  by_stays e r x y z =
      as_now next a' b' x y z
      (turn_stays (slot_by there rule) (stays_by there rule) (goes_by there rule) n old full small new a b t
      (and_from (get_or there n false) (is_none (rule n)) e (ap (λ (o : Option Slot). is_none o) r))
      (and_right (get_or there n false) (is_some (rule n)) (ap (λ (o : Option Slot). is_some o) r))
      (cond-true (get_or there n false) (unwrap_or (rule n) (slot_of old.list n)) (slot_of old.list n) e ∙
      ap (λ (o : Option Slot). unwrap_or o (slot_of old.list n)) r))

  pub by_goes : (x : Slot) → get_or there n false ≡ true → rule n ≡ Some x → next.list ≡ set new.list n x → a' ≡ a → b' ≡ b + 1 → Turned (slot_by there rule) (stays_by there rule) (goes_by there rule) (n + 1) old next a' b'
  by_goes slot e r x y z =
      as_now next a' b' refl y z
      (turn_goes (slot_by there rule) (stays_by there rule) (goes_by there rule) n old full small new a b t slot next x
      (and_right (get_or there n false) (is_none (rule n)) (ap (λ (o : Option Slot). is_none o) r))
      (and_from (get_or there n false) (is_some (rule n)) e (ap (λ (o : Option Slot). is_some o) r))
      (cond-true (get_or there n false) (unwrap_or (rule n) (slot_of old.list n)) (slot_of old.list n) e ∙
      ap (λ (o : Option Slot). unwrap_or o (slot_of old.list n)) r))

-- the rules of the sweep and the fold

slot_same : (p r : Bool) (y x : Slot) → cond p (unwrap_or (cond r None (Some y)) x) x ≡ cond (p && not r) y x
slot_same true true y x = refl
slot_same true false y x = refl
slot_same false r y x = refl

left_same : (p r : Bool) (y : Slot) → (p && is_none (cond r None (Some y))) ≡ (p && r)
left_same true true y = refl
left_same true false y = refl
left_same false r y = refl

gone_same : (p r : Bool) (y : Slot) → (p && is_some (cond r None (Some y))) ≡ (p && not r)
gone_same true true y = refl
gone_same true false y = refl
gone_same false r y = refl

module _ (there : List Bool) (n : ℕ) (old new : Slots) (a b : ℕ) where
  pub swept_by_rule :
      (reached : List Bool) →
      Turned (slot_by there (sweep_rule reached)) (stays_by there (sweep_rule reached)) (goes_by there (sweep_rule reached)) n old new a b →
      Turned (dropped_slot there reached) (stays there reached) (drops there reached) n old new a b
  swept_by_rule reached t =
      record {
        list = t.list ∙ (λ i. slots_by (λ s x. slot_same (get_or there s false) (get_or reached s false) Swept x i) n old.list);
        kept = t.kept ∙ (λ i. count_below (λ s. left_same (get_or there s false) (get_or reached s false) Swept i) n);
        gone = t.gone ∙ (λ i. count_below (λ s. gone_same (get_or there s false) (get_or reached s false) Swept i) n);
      }

  pub folded_by_rule :
      (class : List ℕ) →
      Turned (slot_by there (fold_rule class)) (stays_by there (fold_rule class)) (goes_by there (fold_rule class)) n old new a b →
      Turned (joined_slot there class) (leads there class) (joins there class) n old new a b
  folded_by_rule class t =
      record {
        list =
            t.list ∙
            (λ i. slots_by (λ s x. slot_same (get_or there s false) (eqb (get_or class s 0) s) (Folded (get_or class s 0)) x i) n old.list);
        kept = t.kept ∙ (λ i. count_below (λ s. left_same (get_or there s false) (eqb (get_or class s 0) s) (Folded (get_or class s 0)) i) n);
        gone = t.gone ∙ (λ i. count_below (λ s. gone_same (get_or there s false) (eqb (get_or class s 0) s) (Folded (get_or class s 0)) i) n);
      }
