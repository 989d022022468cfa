-- The section graph of an object keeps the laws.
use Rattle.std.specs.Prelude.{◌≡◌, ℕ, zero, suc, ◌+◌, ◌*◌, ◌/◌, ◌^◌, ◌<◌, ◌≤◌, Bool, true, false, cond, not, ◌||◌, ◌⊎◌, List, [], ◌∷◌, map, length, take, drop, replicate, ℤ, pos, negsuc, ◌+ℤ◌, ◌≤ℤ◌, is_some, Some, None, filter, Option, ◌==◌, int_lt, slice_index_or, refl}
use Rattle.std.proofs.Common.{arith, sym, ap, subst, ◌∙◌, inl, inr}
use Rattle.std.specs.List.{range_with_len, AllByRecursion}
use Rattle.std.proofs.lemmas.Bool.{cases_lt, and_parts, or_cases, eqb-true}
use Rattle.std.proofs.lemmas.List.{get_or_past}
use Rattle.std.proofs.lemmas.List.FromFn.{get_or-map-range_with_len, length-map-range_with_len, length-range_with_len, get_or-range_with_len}
use Rattle.std.proofs.ByRecursion.{All-from_get_or, All-map}
use Rattle.std.proofs.lemmas.Int.{ints}
use Rattle.std.proofs.lemmas.Nat.{pow_below}
use Rattle.model.specs.declared.Target.TheVariants.{Section, Outside}
use Rattle.model.specs.Graph.{Body, Present, section_of}
use Rattle.model.specs.Laws.{Alignment, is_alignment, LawfulRelocation, LawfulBody, Valid, lowest}
use Rattle.model.proofs.Powers.{tested_alignment}
use Rattle.elf.specs.declared.Header.{Header}
use Rattle.elf.specs.declared.Entry.{Entry}
use Rattle.elf.specs.Layout.{sections, section, present, outside, aligned, entry_at}
use Rattle.rules.specs.Rules.{symbol, part, in_range}
use Rattle.rules.specs.Notes.{roots, is_root}
use Rattle.object.specs.Meaning.{low, bytes_of, relocation_of_entry, relocation_at, relocations_in, body, told_section, meaning}
use Rattle.object.specs.Held.{held}
use Rattle.object.specs.Facts.{Facts, held_facts, held_few, sound, bytes_length, whole, Entered, entered, Tables, tables, value_within, inside}

-- section s of the graph
pub section_at : (b : List ℕ) (s : ℕ) → s < sections b → section_of (meaning b) s ≡ told_section b s
section_at b s l = get_or-map-range_with_len (told_section b) 0 (sections b) s s None l (omega arith)

pub section_past : (b : List ℕ) (s : ℕ) → sections b ≤ s → section_of (meaning b) s ≡ None
section_past b s l =
    get_or_past (map (told_section b) (range_with_len 0 (sections b))) s None (omega (arith, length-map-range_with_len (told_section b) 0 (sections b)))

-- a present section is present in the graph
pub present_in : (b : List ℕ) (s : ℕ) → s < sections b → present (section b s) ≡ true → Present (meaning b) s
present_in b s l p = ap is_some (section_at b s l ∙ ap (λ (t : Bool). cond t (Some (body b s)) None) p)

aligned_law : (a : ℕ) → aligned a ≡ true → Alignment (cond (a == 0) 1 a)
aligned_law a e = go (a == 0) refl e
  where
    go : (t : Bool) → (a == 0) ≡ t → (t || is_alignment a) ≡ true → Alignment (cond t 1 a)
    go true q e' = (0, omega arith, refl)
    go false q e' = tested_alignment a e'

-- an alignment that is allowed fits 32 bits
pub aligned_small : (a : ℕ) → aligned a ≡ true → a < 2 ^ 32
aligned_small a e = go (or_cases (a == 0) (is_alignment a) e)
  where
    go : ((a == 0) ≡ true) ⊎ (is_alignment a ≡ true) → a < 2 ^ 32
    go (inl t) = omega (arith, eqb-true a 0 t)
    go (inr t) = let r = tested_alignment a t in omega (arith, pow_below r.0 17 (omega (arith, r.1)), r.2)

all_zero : (n : ℕ) → AllByRecursion (λ (x : ℕ). x < 2 ^ 8) (replicate n 0)
all_zero zero = tt
all_zero (suc n) = (omega arith, all_zero n)

all_low : (xs : List ℕ) → AllByRecursion (λ (x : ℕ). x < 2 ^ 8) (map low xs)
all_low [] = tt
all_low (x ∷ xs) = (omega arith, all_low xs)

bytes_law : (b : List ℕ) (h : Header) → AllByRecursion (λ (x : ℕ). x < 2 ^ 8) (bytes_of b h)
bytes_law b h = go (h.kind == 8)
  where
    go : (t : Bool) → AllByRecursion (λ (x : ℕ). x < 2 ^ 8) (cond t (replicate h.size 0) (map low (take h.size (drop h.offset b))))
    go true = all_zero h.size
    go false = all_low (take h.size (drop h.offset b))

pub range_low : (z : ℤ) → in_range z ≡ true → lowest ≤ℤ z
range_low z e = let q = and_parts (not (int_lt z (negsuc 2147483647))) (not (int_lt (pos 2147483647) z)) e in grind (arith, ints)

pub range_high : (z : ℤ) → in_range z ≡ true → z ≤ℤ pos 2147483647
range_high z e = let q = and_parts (not (int_lt z (negsuc 2147483647))) (not (int_lt (pos 2147483647) z)) e in grind (arith, ints)

-- an entry as a relocation
entry_law : (b : List ℕ) (f : Facts b) (t : Tables b) (size : ℕ) (e : Entry) → e.kind < 2 ^ 32 → Entered b size e
    → LawfulRelocation (Present (meaning b)) size (relocation_of_entry (symbol b e.symbol) e)
entry_law b f t size e k w = go (outside (symbol b e.symbol).section) refl
  where
    go : (o : Bool) → outside (symbol b e.symbol).section ≡ o
        → LawfulRelocation (Present (meaning b)) size
        (cond o (record { offset = e.offset; kind = e.kind; target = Outside e.symbol; displacement = e.addend })
        (record { offset = e.offset; kind = e.kind; target = Section (symbol b e.symbol).section; displacement = pos (symbol b e.symbol).value +ℤ e.addend }))
    go true q =
        record {
          offset = w.offset;
          kind = k;
          aimed = omega (arith, w.symbol_below, t.few);
          low = range_low e.addend w.range;
          high = range_high e.addend w.range;
        }
    go false q =
        let at = inside b (symbol b e.symbol) w.reaches q
        in let v = value_within b e.symbol t w.symbol_below q at.1
        in let small : (symbol b e.symbol).value ≤ 65535 = omega (arith, v, (sound b (symbol b e.symbol).section f at.0 at.1).size)
        in let l = range_low e.addend w.range
        in let h = range_high e.addend w.range
        in record {
          offset = w.offset;
          kind = k;
          aimed = present_in b (symbol b e.symbol).section at.0 at.1;
          low = omega (arith, ints);
          high = omega (arith, ints);
        }

relocations_law : (b : List ℕ) (s : ℕ) (f : Facts b) (o : Option ℕ) → part b s (sections b) ≡ o
    → (length (relocations_in b o) < 2 ^ 16) × AllByRecursion (LawfulRelocation (Present (meaning b)) (section b s).size) (relocations_in b o)
relocations_law b s f None e = (omega arith, tt)
relocations_law b s f (Some r) e =
    let w = whole b s r f e
    in let len = length-map-range_with_len (relocation_at b (section b r).offset) 0 ((section b r).size / 24)
    in (
      omega (arith, len, w.few),
      All-map (LawfulRelocation (Present (meaning b)) (section b s).size) (relocation_at b (section b r).offset) (range_with_len 0 ((section b r).size / 24))
          (All-from_get_or (λ (j : ℕ). LawfulRelocation (Present (meaning b)) (section b s).size (relocation_at b (section b r).offset j)) (range_with_len 0 ((section b r).size / 24)) 0
          (λ j l. let below : j < (section b r).size / 24 = omega (arith, length-range_with_len 0 ((section b r).size / 24))
          in let at : slice_index_or (range_with_len 0 ((section b r).size / 24)) j 0 ≡ j = get_or-range_with_len 0 ((section b r).size / 24) j 0 below ∙ omega arith
          in subst (λ (x : ℕ). LawfulRelocation (Present (meaning b)) (section b s).size (relocation_at b (section b r).offset x)) (sym at)
          (entry_law b f (tables b f) (section b s).size (entry_at b ((section b r).offset + 24 * j)) (omega arith) (entered b s r j w below)))),
    )

body_law : (b : List ℕ) (s : ℕ) → Facts b → s < sections b → present (section b s) ≡ true → LawfulBody (Present (meaning b)) (body b s)
body_law b s f l p =
    let h = sound b s f l p
    in let len = bytes_length b (section b s) h
    in let rel = relocations_law b s f (part b s (sections b)) refl
    in record {
      flags = omega (arith, h.flags);
      alignment = aligned_law (section b s).alignment h.alignment;
      size = omega (arith, len, h.size);
      bytes = bytes_law b (section b s);
      few = rel.0;
      relocations = subst (λ (n : ℕ). AllByRecursion (LawfulRelocation (Present (meaning b)) n) (relocations_in b (part b s (sections b)))) (sym len) rel.1;
    }

told_body : (b : List ℕ) (s : ℕ) (x : Body) → told_section b s ≡ Some x → (present (section b s) ≡ true) × (body b s ≡ x)
told_body b s x e = go (present (section b s)) refl e
  where
    go : (t : Bool) → present (section b s) ≡ t → cond t (Some (body b s)) None ≡ Some x → (present (section b s) ≡ true) × (body b s ≡ x)
    go true q e' = (q, cc)
    go false q e' = let z : ◌≡◌ {A = ℕ} 0 1 = cc in absurd (omega arith)

-- a root is a present section
roots_law : (b : List ℕ) → AllByRecursion (Present (meaning b)) (roots b)
roots_law b = go (range_with_len 0 (sections b)) (All-from_get_or (λ (j : ℕ). j < sections b) (range_with_len 0 (sections b)) 0 (λ j l. omega (arith, length-range_with_len 0 (sections b), get_or-range_with_len 0 (sections b) j 0)))
  where
    go : (xs : List ℕ) → AllByRecursion (λ (j : ℕ). j < sections b) xs → AllByRecursion (Present (meaning b)) (filter (is_root b) xs)
    go [] a = tt
    go (x ∷ xs) a = here (is_root b x) refl (go xs a.1)
      where
        here : (t : Bool) → is_root b x ≡ t → AllByRecursion (Present (meaning b)) (filter (is_root b) xs) → AllByRecursion (Present (meaning b)) (cond t (x ∷ filter (is_root b) xs) (filter (is_root b) xs))
        here true q rest = (present_in b x a.0 (and_parts (present (section b x)) _ q).0, rest)
        here false q rest = rest

kept_few : (p : ℕ → Bool) (xs : List ℕ) → length (filter p xs) ≤ length xs
kept_few p [] = omega arith
kept_few p (x ∷ xs) = go (p x) (kept_few p xs)
  where
    go : (t : Bool) → length (filter p xs) ≤ length xs → length (cond t (x ∷ filter p xs) (filter p xs)) ≤ suc (length xs)
    go true h = omega arith
    go false h = omega arith

-- as many roots as sections at most
pub roots_few : (b : List ℕ) → held b ≡ true → length (roots b) ≤ 1024
roots_few b h = omega (arith, kept_few (is_root b) (range_with_len 0 (sections b)), length-range_with_len 0 (sections b), held_few b h)

pub lawful : (b : List ℕ) → held b ≡ true → Valid (meaning b)
lawful b h =
    record {
      few = omega (arith, length-map-range_with_len (told_section b) 0 (sections b), held_few b h);
      few_roots = omega (arith, roots_few b h);
      bodies = λ s x e. bodies_law s x e (cases_lt s (sections b));
      rooted = roots_law b;
    }
  where
    bodies_law : (s : ℕ) (x : Body) → section_of (meaning b) s ≡ Some x → (s < sections b) ⊎ (sections b ≤ s) → LawfulBody (Present (meaning b)) x
    bodies_law s x e (inl l) =
        let t = told_body b s x (sym (section_at b s l) ∙ e)
        in subst (LawfulBody (Present (meaning b))) t.1 (body_law b s (held_facts b s h l) l t.0)
    bodies_law s x e (inr l) = let p = section_past b s l in let z : ◌≡◌ {A = ℕ} 0 1 = cc in absurd (omega arith)
