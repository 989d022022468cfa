-- The sections with relocations, one more, and their notes.
use Rattle.std.proofs.Common.{◌≡◌, ℕ, ◌+◌, ◌*◌, ◌/◌, ◌%◌, ◌<◌, ◌≤◌, Bool, true, false, cond, not, ◌&&◌, ◌||◌, eqb, ltb, leb, ◌≢◌, ◌⊎◌, List, ◌∷◌, length, get_or, set, is_some, Some, None, Option, sym, refl, ap, ◌∙◌, inl, inr, add-one, arith}
use Rattle.std.proofs.lemmas.Bool.{eqb-true, ne_eqb, eq-eqb, leb-true, ltb-true, and_parts, and_from, and_cases, and_left, and_right, cases_eq, or_cases}
use Rattle.std.proofs.lemmas.List.{get_or-set_same, get_or-set_other}
use Rattle.checklist.specs.Checks.{Check, first_fault, all_hold, each, where_holds}
use Rattle.elf.specs.declared.Header.{Header}
use Rattle.elf.specs.Layout.{place, section, sections, present}
use Rattle.rules.specs.declared.Part.{Part}
use Rattle.rules.specs.Known.{Parted}
use Rattle.rules.specs.Rules.{part, earlier, relocates, relocating, part_checks, fit_checks, told_part, table, is_number, extent_rule}
use Rattle.reading.proofs.Firsts.{extent_is}

-- what is known of a section with relocations of a present section that passed
pub record Fit (b : List ℕ) (i : ℕ) (h : Header) : Type 0 where
  pub below : h.info < sections b
  pub kind : h.kind ≡ 4
  pub alone : part b h.info i ≡ None
  pub linked : is_number (table b) h.link ≡ true
  pub even : h.size % 24 ≡ 0
  pub few : h.size / 24 ≤ 65535

not_some : (o : Option ℕ) → not (is_some o) ≡ true → o ≡ None
not_some None e = refl
not_some (Some i) e = let z : ◌≡◌ {A = ℕ} 0 1 = cc in absurd (omega arith)

opened : (x y : Bool) (c : Check) (cs : List Check) → x ≡ true → y ≡ true
    → all_hold (where_holds x (c ∷ where_holds y cs)) ≡ true → all_hold (c ∷ cs) ≡ true
opened true true c cs p q e = e
opened true false c cs p q e = let z : ◌≡◌ {A = ℕ} 0 1 = cc in absurd (omega arith)
opened false y c cs p q e = let z : ◌≡◌ {A = ℕ} 0 1 = cc in absurd (omega arith)

pub passed : (b : List ℕ) (i p : ℕ) (h : Header) → relocating h ≡ true → present (section b h.info) ≡ true
    → all_hold (part_checks b i p h) ≡ true → Fit b i h
passed b i p h r q e =
    let a = opened (relocating h) (present (section b h.info)) _ (fit_checks p h (is_some (part b h.info i)) (is_number (table b) h.link)) r q e
    in let a0 = and_parts (ltb h.info (sections b)) _ a
    in let a1 = and_parts (eqb h.kind 4) _ a0.1
    in let a2 = and_parts (not (is_some (part b h.info i))) _ a1.1
    in let a3 = and_parts (is_number (table b) h.link) _ a2.1
    in let a4 = and_parts (eqb h.stride 24) _ a3.1
    in let a5 = and_parts (eqb (h.size % 24) 0) _ a4.1
    in let a6 = and_parts (leb (h.size / 24) 65535) true a5.1
    in record {
      below = ltb-true h.info (sections b) a0.0;
      kind = eqb-true h.kind 4 a1.0;
      alone = not_some (part b h.info i) a2.0;
      linked = a3.0;
      even = eqb-true (h.size % 24) 0 a5.0;
      few = leb-true (h.size / 24) 65535 a6.0;
    }

-- what a part that is told is
pub told_is : (b : List ℕ) (h : Header) (m : Part) → told_part b h ≡ Some m
    → (relocating h ≡ true) × (present (section b h.info) ≡ true)
    × (m ≡ record { target = h.info; size = (section b h.info).size; from = h.offset; count = h.size / 24 })
told_is b h m e = go (relocating h) (present (section b h.info)) refl refl e
  where
    go : (x y : Bool) → relocating h ≡ x → present (section b h.info) ≡ y
        → cond (x && y) (Some (record { target = h.info; size = (section b h.info).size; from = h.offset; count = h.size / 24 })) None ≡ Some m
        → (relocating h ≡ true) × (present (section b h.info) ≡ true)
        × (m ≡ record { target = h.info; size = (section b h.info).size; from = h.offset; count = h.size / 24 })
    go true true p q e' = (p, q, cc)
    go true false p q e' = let z : ◌≡◌ {A = ℕ} 0 1 = cc in absurd (omega arith)
    go false y p q e' = let z : ◌≡◌ {A = ℕ} 0 1 = cc in absurd (omega arith)

pub told_none : (b : List ℕ) (h : Header) → told_part b h ≡ None → (relocating h && present (section b h.info)) ≡ false
told_none b h e = go (relocating h && present (section b h.info)) e
  where
    go : (x : Bool) → cond {A = Option Part} x (Some (record { target = h.info; size = (section b h.info).size; from = h.offset; count = h.size / 24 })) None ≡ None → x ≡ false
    go true e' = let z : ◌≡◌ {A = ℕ} 0 1 = cc in absurd (omega arith)
    go false e' = refl

same_earlier : (o : Option ℕ) (t : Bool) (i : ℕ) → t ≡ false → earlier o t i ≡ o
same_earlier None false i e = refl
same_earlier None true i e = let z : ◌≡◌ {A = ℕ} 0 1 = cc in absurd (omega arith)
same_earlier (Some j) t i e = refl

found_here : (o : Option ℕ) (t : Bool) (i : ℕ) → o ≡ None → t ≡ true → earlier o t i ≡ Some i
found_here None true i e f = refl
found_here None false i e f = let z : ◌≡◌ {A = ℕ} 0 1 = cc in absurd (omega arith)
found_here (Some j) t i e f = let z : ◌≡◌ {A = ℕ} 0 1 = cc in absurd (omega arith)

-- a section that is told no part notes nothing
pub parted_same : (b : List ℕ) (i : ℕ) (parts : List (Option ℕ)) → told_part b (section b i) ≡ None → Parted b i parts → Parted b (i + 1) parts
parted_same b i parts e known t h =
    rw (add-one i) (known t h ∙ sym (same_earlier (part b t i) (relocates b t i) i (no (told_none b (section b i) e) (cases_eq (section b i).info t))))
  where
    no : (relocating (section b i) && present (section b (section b i).info)) ≡ false → ((section b i).info ≡ t) ⊎ ((section b i).info ≡ t → ⊥) → relocates b t i ≡ false
    no f (inl q) = go (and_cases (relocating (section b i)) (present (section b (section b i).info)) f)
      where
        go : (relocating (section b i) ≡ false) ⊎ (present (section b (section b i).info) ≡ false) → relocates b t i ≡ false
        go (inl x) = and_left (relocating (section b i)) (eqb (section b i).info t && present (section b t)) x
        go (inr x) = and_right (relocating (section b i)) (eqb (section b i).info t && present (section b t)) (and_right (eqb (section b i).info t) (present (section b t)) (ap (λ (y : ℕ). present (section b y)) (sym q) ∙ x))
    no f (inr q) = and_right (relocating (section b i)) (eqb (section b i).info t && present (section b t)) (and_left (eqb (section b i).info t) (present (section b t)) (ne_eqb (section b i).info t q))

-- a part that is told is noted for its target
pub parted_more : (b : List ℕ) (i : ℕ) (parts : List (Option ℕ)) (m : Part) → told_part b (section b i) ≡ Some m
    → all_hold (part_checks b i (place b i) (section b i)) ≡ true → length parts ≡ 1024 → sections b ≤ 1024
    → Parted b i parts → (m.target < 1024) × Parted b (i + 1) (set parts m.target (Some i))
parted_more b i parts m e a len few known =
    let told = told_is b (section b i) m e
    in let fit = passed b i (place b i) (section b i) told.0 told.1 a
    in let target : m.target ≡ (section b i).info = ap (λ (x : Part). x.target) told.2
    in let low : (section b i).info < 1024 = omega (arith, fit.below)
    in (
      rw target low,
      rw target (λ t h. rw (add-one i) (go told.0 told.1 fit.alone low t h (cases_eq (section b i).info t))),
    )
  where
    go : relocating (section b i) ≡ true → present (section b (section b i).info) ≡ true → part b (section b i).info i ≡ None
        → (section b i).info < 1024 → (t : ℕ) → t < 1024 → ((section b i).info ≡ t) ⊎ ((section b i).info ≡ t → ⊥)
        → get_or (set parts (section b i).info (Some i)) t None ≡ earlier (part b t i) (relocates b t i) i
    go r q alone low t h (inl s) =
        let here : present (section b t) ≡ true = ap (λ (x : ℕ). present (section b x)) (sym s) ∙ q
        in let yes : relocates b t i ≡ true
        = and_from (relocating (section b i)) (eqb (section b i).info t && present (section b t)) r
        (and_from (eqb (section b i).info t) (present (section b t)) (eq-eqb (section b i).info t s) here)
        in let none : part b t i ≡ None = ap (λ (x : ℕ). part b x i) (sym s) ∙ alone
        in let fits : t < length parts = omega arith
        in let same : get_or (set parts (section b i).info (Some i)) t None ≡ Some i
        = ap (λ (x : ℕ). get_or (set parts x (Some i)) t None) s ∙ get_or-set_same parts t (Some i) None fits
        in same ∙ sym (found_here (part b t i) (relocates b t i) i none yes)
    go r q alone low t h (inr s) =
        let no : relocates b t i ≡ false
        = and_right (relocating (section b i)) (eqb (section b i).info t && present (section b t))
        (and_left (eqb (section b i).info t) (present (section b t)) (ne_eqb (section b i).info t s))
        in let other : t ≢ (section b i).info = λ x. s (sym x)
        in get_or-set_other parts (section b i).info t (Some i) None other ∙ (known t h ∙ sym (same_earlier (part b t i) (relocates b t i) i no))

-- the entries of a part that is told stand in the file
pub part_ends : (b : List ℕ) (i : ℕ) (m : Part) → i < sections b → told_part b (section b i) ≡ Some m
    → first_fault (each (extent_rule b) (sections b)) ≡ None → m.from + 24 * m.count ≤ length b
part_ends b i m lt e f =
    let told = told_is b (section b i) m e
    in let ends = extent_is b i lt
    (λ z. no (section b i).kind 0 told.0 z (λ q. omega arith) (λ q. omega arith))
    (λ z. no (section b i).kind 8 told.0 z (λ q. omega arith) (λ q. omega arith)) f
    in let count : m.count ≡ (section b i).size / 24 = ap (λ (x : Part). x.count) told.2
    in let from : m.from ≡ (section b i).offset = ap (λ (x : Part). x.from) told.2
    in omega (arith, ends, count, from)
  where
    no : (k x : ℕ) → (eqb k 4 || eqb k 9) ≡ true → k ≡ x → (x ≡ 4 → ⊥) → (x ≡ 9 → ⊥) → ⊥
    no k x r q u v = go (or_cases (eqb k 4) (eqb k 9) r)
      where
        go : (eqb k 4 ≡ true) ⊎ (eqb k 9 ≡ true) → ⊥
        go (inl w) = u (sym q ∙ eqb-true k 4 w)
        go (inr w) = v (sym q ∙ eqb-true k 9 w)
