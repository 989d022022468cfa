-- What is told is what stands in the table of names, and what stands there is told.
use Rattle.std.proofs.Common.{◌≡◌, ◌≢◌, ℕ, ◌+◌, ◌<◌, Bool, true, false, cond, not, ◌&&◌, eqb, ltb, leb, List, [], ◌∷◌, ◌++◌, length, get_or, take, drop, position, Some, None, Option, option_and_then, EachIndex, sym, refl, ap, ◌∙◌, arith}
use Rattle.std.specs.List.{position_or_len}
use Rattle.std.proofs.lemmas.Bool.{and_parts, and_from, cond-true, eqb-true, eqb-false, eq-eqb, ne_eqb, ltb-true, lt-ltb, leb-true, le-leb, not-true, not_from_false}
use Rattle.std.proofs.lemmas.List.{length-append, length-take, length-take-le, take-take, take_at, take_more, get_or-take, get_or_append_left, get_or_at}
use Rattle.std.proofs.lemmas.List.Quantifiers.{position-Some}
use Rattle.std.proofs.lemmas.List.Sums.{position_or_len_is}
use Rattle.std.proofs.lemmas.Option.{none-some, same_Some, cond_some, option_and_then_some}
use Rattle.field.specs.Fields.{word}
use Rattle.elf.specs.declared.Header.{Header}
use Rattle.elf.specs.Layout.{sections, place, section}
use Rattle.section_names.specs.Names.{headed, bytes_of, table_number, table_of, is_zero, ended, text_at, name_of}
use Rattle.section_names.specs.Laws.{HasHeader, LiesIn, NameTable, StandsAt, Named, OnlyNames, NamesTold}

-- what a test lets through
passed : {A : Type 0} (b : Bool) (o : Option A) (x : A) → cond b o None ≡ Some x → (b ≡ true) × (o ≡ Some x)
passed true o x h = (refl, h)
passed false o x h = absurd (none-some x h)

-- a name and its end, from the first byte of ys on

abbrev Ends : List ℕ → List ℕ → Type 0
Ends ys xs = (take (length xs + 1) ys ≡ xs ++ 0 ∷ []) × EachIndex xs (λ k. get_or xs k 0 ≢ 0)

as_long : (ys xs : List ℕ) (n : ℕ) → n < length ys → take n ys ≡ xs → length xs ≡ n
as_long ys xs n l e = ap length (sym e) ∙ length-take-le n ys (omega arith)

with_zero : (ys xs : List ℕ) (n : ℕ) → n < length ys → get_or ys n 0 ≡ 0 → take n ys ≡ xs → take (length xs + 1) ys ≡ xs ++ 0 ∷ []
with_zero ys xs n l z e =
    ap (λ (k : ℕ). take (k + 1) ys) (as_long ys xs n l e)
    ∙ take_more ys n 0 l
    ∙ ap (λ (x : ℕ). take n ys ++ x ∷ []) z
    ∙ ap (λ (x : List ℕ). x ++ 0 ∷ []) e

no_zero : (ys xs : List ℕ) (n : ℕ)
    → n < length ys
    → ((k : ℕ) → k < n → eqb (get_or ys k 0) 0 ≡ false)
    → take n ys ≡ xs
    → (k : ℕ)
    → k < length xs
    → get_or xs k 0 ≢ 0
no_zero ys xs n l h e k low z =
    let m : k < n = omega (arith, low, as_long ys xs n l e) in
    eqb-false (get_or ys k 0) 0 (h k m) (sym (get_or-take n ys k 0 m) ∙ ap (λ (x : List ℕ). get_or x k 0) e ∙ z)

ended_only : (ys xs : List ℕ) → ended ys (position is_zero ys) ≡ Some xs → Ends ys xs
ended_only ys xs h = go (position is_zero ys) refl h
  where
    go : (o : Option ℕ) → position is_zero ys ≡ o → ended ys o ≡ Some xs → Ends ys xs
    go None e k = absurd (none-some xs k)
    go (Some n) e k =
        let f = position-Some is_zero ys n 0 e in
        let front : take n ys ≡ xs = same_Some (take n ys) xs k in
        (with_zero ys xs n f.0 (eqb-true (get_or ys n 0) 0 f.1) front, no_zero ys xs n f.0 f.2 front)

module _ (ys xs : List ℕ) (bytes : take (length xs + 1) ys ≡ xs ++ 0 ∷ []) (free : EachIndex xs (λ k. get_or xs k 0 ≢ 0)) where
  longer : length xs < length ys
  longer = omega (arith, ap length bytes, length-take (length xs + 1) ys, length-append xs (0 ∷ []))

  same : (k : ℕ) → k < length xs + 1 → get_or ys k 0 ≡ get_or (xs ++ 0 ∷ []) k 0
  same k l = sym (get_or-take (length xs + 1) ys k 0 l) ∙ ap (λ (x : List ℕ). get_or x k 0) bytes

  before : (k : ℕ) → k < length xs → eqb (get_or ys k 0) 0 ≡ false
  before k l =
      ne_eqb (get_or ys k 0) 0
      (λ z. free k l (sym (get_or_append_left xs (0 ∷ []) 0 k l) ∙ sym (same k (omega (arith, l))) ∙ z))

  there : eqb (get_or ys (length xs) 0) 0 ≡ true
  there =
      eq-eqb (get_or ys (length xs) 0) 0 (same (length xs) (omega arith) ∙ get_or_at xs 0 [] 0 (length xs) refl)

  first : position_or_len is_zero ys ≡ length xs
  first = position_or_len_is is_zero ys (length xs) 0 (omega (arith, longer)) before (λ l. there)

  found : position is_zero ys ≡ Some (length xs)
  found =
      ap (λ (n : ℕ). cond {A = Option ℕ} (ltb n (length ys)) (Some n) None) first
      ∙ cond-true {A = Option ℕ} (ltb (length xs) (length ys)) (Some (length xs)) None (lt-ltb (length xs) (length ys) longer)

  ended_told : ended ys (position is_zero ys) ≡ Some xs
  ended_told =
      ap (ended ys) found
      ∙ ap Some
      (sym (take-take (length xs) (length xs + 1) ys (omega arith))
      ∙ ap (take (length xs)) bytes
      ∙ take_at xs (0 ∷ []) (length xs) refl)

text_only : (p : ℕ) (t xs : List ℕ) → text_at p t ≡ Some xs → StandsAt t p xs
text_only p t xs h = let e = ended_only (drop p t) xs h in record { bytes = e.0; free = e.1 }

text_told : (p : ℕ) (t xs : List ℕ) → StandsAt t p xs → text_at p t ≡ Some xs
text_told p t xs s = ended_told (drop p t) xs s.bytes s.free

-- headers, and the table of names

header_only : (b : List ℕ) (i : ℕ) → headed b i ≡ true → HasHeader b i
header_only b i h =
    let p = and_parts (ltb i (sections b)) (leb (place b i + 64) (length b)) h in
    record { counted = ltb-true i (sections b) p.0; inside = leb-true (place b i + 64) (length b) p.1 }

header_told : (b : List ℕ) (i : ℕ) → HasHeader b i → headed b i ≡ true
header_told b i h =
    and_from (ltb i (sections b)) (leb (place b i + 64) (length b))
    (lt-ltb i (sections b) h.counted)
    (le-leb (place b i + 64) (length b) h.inside)

bytes_only : (b : List ℕ) (h : Header) (t : List ℕ) → bytes_of b h ≡ Some t → LiesIn b h t
bytes_only b h t e =
    let p = cond_some (leb (h.offset + h.size) (length b)) (take h.size (drop h.offset b)) t e in
    record { inside = leb-true (h.offset + h.size) (length b) p.0; bytes = sym p.1 }

bytes_told : (b : List ℕ) (h : Header) (t : List ℕ) → LiesIn b h t → bytes_of b h ≡ Some t
bytes_told b h t l =
    cond-true {A = Option (List ℕ)} (leb (h.offset + h.size) (length b)) (Some (take h.size (drop h.offset b))) None
    (le-leb (h.offset + h.size) (length b) l.inside)
    ∙ ap Some (sym l.bytes)

table_only : (b t : List ℕ) → table_of b ≡ Some t → NameTable b t
table_only b t h =
    let n : ℕ = table_number b in
    let p = passed (not (eqb n 0) && headed b n) (bytes_of b (section b n)) t h in
    let q = and_parts (not (eqb n 0)) (headed b n) p.0 in
    record {
      numbered = eqb-false n 0 (not-true (eqb n 0) q.0);
      header = header_only b n q.1;
      lies = bytes_only b (section b n) t p.1;
    }

table_told : (b t : List ℕ) → NameTable b t → table_of b ≡ Some t
table_told b t k =
    let n : ℕ = table_number b in
    let some : not (eqb n 0) ≡ true = not_from_false (eqb n 0) (ne_eqb n 0 k.numbered) in
    cond-true {A = Option (List ℕ)} (not (eqb n 0) && headed b n) (bytes_of b (section b n)) None
    (and_from (not (eqb n 0)) (headed b n) some (header_told b n k.header))
    ∙ bytes_told b (section b n) t k.lies

-- names

named : (b : List ℕ) (i : ℕ) (xs : List ℕ)
    → headed b i ≡ true
    → (t : List ℕ)
    → table_of b ≡ Some t
    → text_at (word b (place b i)) t ≡ Some xs
    → Named b i xs
named b i xs h t e k =
    record { header = header_only b i h; table = t; names = table_only b t e; stands = text_only (word b (place b i)) t xs k }

pub only : OnlyNames
only b i xs h =
    let p = passed (headed b i) (option_and_then (text_at (word b (place b i))) (table_of b)) xs h in
    option_and_then_some (text_at (word b (place b i))) (table_of b) xs p.1 (named b i xs p.0)

pub told : NamesTold
told b i xs n =
    cond-true {A = Option (List ℕ)} (headed b i) (option_and_then (text_at (word b (place b i))) (table_of b)) None
    (header_told b i n.header)
    ∙ ap (option_and_then (text_at (word b (place b i)))) (table_told b n.table n.names)
    ∙ text_told (word b (place b i)) n.table xs n.stands
