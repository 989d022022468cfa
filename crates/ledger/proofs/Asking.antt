-- What the pile answers, from what the graph below answers.
use Rattle.std.proofs.Common.{◌≡◌, ℕ, zero, suc, ◌+◌, ◌-◌, ◌≤◌, Bool, true, false, cond, ltb, leb, List, [], ◌∷◌, ◌++◌, map, length, is_some, Some, None, Ok, Err, Option, sym, refl, ap, ◌∙◌, ⊎_elim, arith}
use Rattle.std.specs.Option.{option_map}
use Rattle.std.specs.List.{slice_get}
use Rattle.std.proofs.lemmas.Bool.{cases_lt, le-leb, cond-true}
use Rattle.std.proofs.lemmas.List.{length-map}
use Rattle.std.proofs.lemmas.Option.{slice_get-get_or}
use Rattle.arrayvec.specs.ArrayVec.{array_vec_len}
use Rattle.model.specs.declared.Setting.TheVariants.{Pinned}
use Rattle.model.specs.declared.Target.{Target}
use Rattle.model.specs.declared.Relocation.{Relocation}
use Rattle.model.specs.declared.Record.{Record}
use Rattle.model.specs.Graph.{Body, Graph, section_of, count_of, told_record, told_byte, told_relocation, record_of, byte_of, relocation_of, root_of, root_count_of}
use Rattle.std.proofs.lemmas.Option.{slice_get-map}
use Rattle.unfolding.specs.Groups.{aimed_at, aimed, moved, present}
use Rattle.calls.specs.declared.Slot.{Slot}
use Rattle.calls.specs.declared.Slot.TheVariants.{Untouched, Folded, Swept}
use Rattle.calls.specs.declared.Place.TheVariants.{Absent}
use Rattle.runs.specs.Drawn.{as_pinned}
use Rattle.runs.specs.Laws.{pinned_record}
use Rattle.runs.specs.State.{no_section, slot_of, untouched, found_at, place_of}
use Rattle.runs.specs.Seen.{found_number, left_of, seen_section}
use Rattle.runs.proofs.Seen.{seen_at}
use Rattle.ledger.specs.declared.Ledger.{Ledger}
use Rattle.ledger.specs.Told.{bound_by, pinned, drawn_section, drawn_from, told}
use Rattle.ledger.specs.Answers.{seen_record, seen_byte, seen_target, seen_relocation, added_root, seen_root, placed}
use Rattle.ledger.proofs.Drawing.{aimed_twice, drawn_at, drawn_count, drawn_present, drawn_roots}
use Rattle.ledger.proofs.Telling.{told_graph, roots_length}

-- a section of the pile
pub told_at : (g : Graph) (t : Ledger) (s : ℕ) → section_of (told g t).graph s ≡ seen_section t.slots.list s (drawn_section t s (section_of g s))
told_at g t s =
    ap (λ (x : Graph). section_of x s) (told_graph g t) ∙
    (seen_at t.slots.list (drawn_from g t) s ∙ ap (seen_section t.slots.list s) (drawn_at g t s))

-- records and bytes

pub tells_record : (g : Graph) (t : Ledger) (s : ℕ) → record_of (told g t).graph s ≡ seen_record t s (record_of g s)
tells_record g t s =
    ap told_record (told_at g t s) ∙
    go (moved (found_number t.slots.list)) (bound_by t) (slot_of t.slots.list s) (pinned t s) (section_of g s)
  where
    length_twice : (f h : Target → Target) (rs : List Relocation) → length (map (aimed_at f) (map (aimed_at h) rs)) ≡ length rs
    length_twice f h rs = length-map (map (aimed_at h) rs) (aimed_at f) ∙ length-map rs (aimed_at h)

    go :
        (f h : Target → Target) (x : Slot) (c : Bool) (o : Option Body) →
        told_record (left_of x (option_map (aimed f) (option_map (aimed h) (cond c (option_map as_pinned o) o)))) ≡
        cond (untouched x) (cond c (option_map pinned_record (told_record o)) (told_record o)) None
    go f h Untouched true None = refl
    go f h Untouched false None = refl
    go f h Untouched true (Some b) =
        let n = length_twice f h b.relocations in
        λ i.
        Some
        (record {
          flags = b.flags;
          alignment = b.alignment;
          size = length b.bytes;
          relocations = n i;
          setting = Pinned;
        })
    go f h Untouched false (Some b) =
        let n = length_twice f h b.relocations in
        λ i.
        Some
        (record {
          flags = b.flags;
          alignment = b.alignment;
          size = length b.bytes;
          relocations = n i;
          setting = b.setting;
        })
    go f h (Folded u) c o = refl
    go f h Swept c o = refl

pub tells_byte : (g : Graph) (t : Ledger) (s j : ℕ) → byte_of (told g t).graph s j ≡ seen_byte t s (byte_of g s j)
tells_byte g t s j =
    ap (λ (o : Option Body). told_byte o j) (told_at g t s) ∙
    go (moved (found_number t.slots.list)) (bound_by t) (slot_of t.slots.list s) (pinned t s) (section_of g s)
  where
    go :
        (f h : Target → Target) (x : Slot) (c : Bool) (o : Option Body) →
        told_byte (left_of x (option_map (aimed f) (option_map (aimed h) (cond c (option_map as_pinned o) o)))) j ≡
        cond (untouched x) (told_byte o j) None
    go f h Untouched true None = refl
    go f h Untouched false None = refl
    go f h Untouched true (Some b) = refl
    go f h Untouched false (Some b) = refl
    go f h (Folded u) c o = refl
    go f h Swept c o = refl

-- relocations

pub tells_relocation : (g : Graph) (t : Ledger) (s j : ℕ) → relocation_of (told g t).graph s j ≡ seen_relocation t s (relocation_of g s j)
tells_relocation g t s j =
    ap (λ (o : Option Body). told_relocation o j) (told_at g t s) ∙
    (ap
    (λ (o : Option Body). told_relocation (left_of (slot_of t.slots.list s) o) j)
    (sym
    (aimed_twice
    (moved (found_number t.slots.list))
    (bound_by t)
    (seen_target t)
    (λ x. refl)
    (cond (pinned t s) (option_map as_pinned (section_of g s)) (section_of g s)))) ∙
    go (seen_target t) (slot_of t.slots.list s) (pinned t s) (section_of g s))
  where
    go :
        (f : Target → Target) (x : Slot) (c : Bool) (o : Option Body) →
        told_relocation (left_of x (option_map (aimed f) (cond c (option_map as_pinned o) o))) j ≡
        cond (untouched x) (option_map (aimed_at f) (told_relocation o j)) None
    go f Untouched true None = refl
    go f Untouched false None = refl
    go f Untouched true (Some b) = slice_get-map (aimed_at f) b.relocations j
    go f Untouched false (Some b) = slice_get-map (aimed_at f) b.relocations j
    go f (Folded u) c o = refl
    go f Swept c o = refl

-- roots

pub told_roots : (g : Graph) (t : Ledger) → (told g t).graph.roots ≡ map (found_number t.slots.list) (g.roots ++ t.roots.items)
told_roots g t =
    ap (λ (x : Graph). x.roots) (told_graph g t) ∙ ap (map (found_number t.slots.list)) (drawn_roots g t)

pub tells_root_count : (g : Graph) (t : Ledger) → root_count_of (told g t).graph ≡ root_count_of g + array_vec_len t.roots
tells_root_count g t =
    ap (λ (x : Graph). root_count_of x) (told_graph g t) ∙
    (length-map (drawn_from g t).roots (found_number t.slots.list) ∙ roots_length g t)

nth_left : (xs ys : List ℕ) (j s : ℕ) → slice_get xs j ≡ Some s → slice_get (xs ++ ys) j ≡ Some s
nth_left [] ys j s e =
    let z : ◌≡◌ {A = ℕ} 0 1 = cc in
    absurd (omega arith)
nth_left (x ∷ xs) ys zero s e = e
nth_left (x ∷ xs) ys (suc j) s e = nth_left xs ys j s e

nth_right : (xs ys : List ℕ) (j : ℕ) → length xs ≤ j → slice_get (xs ++ ys) j ≡ slice_get ys (j - length xs)
nth_right [] ys j h =
    let e : j ≡ j - 0 = omega arith in
    ap (slice_get ys) e
nth_right (x ∷ xs) ys zero h = absurd (omega arith)
nth_right (x ∷ xs) ys (suc j) h =
    let e : j - length xs ≡ suc j - suc (length xs) = omega arith in
    nth_right xs ys j (omega arith) ∙ ap (slice_get ys) e

nth_out : (xs : List ℕ) (j : ℕ) → slice_get xs j ≡ None → length xs ≤ j
nth_out xs j e =
    ⊎_elim
    (λ h.
    let f = slice_get-get_or xs j 0 h in
    let z : ◌≡◌ {A = ℕ} 0 1 = cc in
    absurd (omega arith))
    (λ h. h)
    (cases_lt j (length xs))

pub tells_root : (g : Graph) (t : Ledger) (j : ℕ) → root_of (told g t).graph j ≡ seen_root t (root_count_of g) j (root_of g j)
tells_root g t j =
    ap (λ (xs : List ℕ). slice_get xs j) (told_roots g t) ∙
    (slice_get-map (found_number t.slots.list) (g.roots ++ t.roots.items) j ∙ go (root_of g j) refl)
  where
    go :
        (o : Option ℕ) →
        root_of g j ≡ o →
        option_map (found_number t.slots.list) (slice_get (g.roots ++ t.roots.items) j) ≡
        seen_root t (root_count_of g) j o
    go (Some s) e =
        ap (option_map (found_number t.slots.list)) (nth_left g.roots t.roots.items j s e)
    go None e =
        let out = nth_out g.roots j e in
        ap (option_map (found_number t.slots.list)) (nth_right g.roots t.roots.items j out) ∙
        sym (cond-true (leb (root_count_of g) j) (added_root t (j - root_count_of g)) None (le-leb (root_count_of g) j out))

-- the place

pub tells_place : (g : Graph) (t : Ledger) (s : ℕ) → place_of (told g t) s ≡ placed t (count_of g) (present g s) s
unfolding told
tells_place g t s =
    let n = drawn_count g t in
    let p = drawn_present g t s in
    λ i. cond (ltb s (n i)) (Ok (cond (p i) (found_at t.slots.list s) Absent)) (Err (no_section s))

-- what is present in the pile is present below
pub present_below : (g : Graph) (t : Ledger) (s : ℕ) → present (told g t).graph s ≡ is_some (seen_record t s (record_of g s))
present_below g t s = same (section_of (told g t).graph s) ∙ ap (λ (r : Option Record). is_some r) (tells_record g t s)
  where
    same : (o : Option Body) → is_some o ≡ is_some (told_record o)
    same None = refl
    same (Some b) = refl
