-- The address-significance table, read byte by byte.
use Rattle.std.proofs.Common.{◌≡◌, ℕ, suc, ◌+◌, ◌-◌, ◌*◌, ◌^◌, ◌<◌, ◌≤◌, Bool, true, false, cond, not, ◌&&◌, ◌||◌, eqb, ltb, leb, ◌≢◌, ◌⊎◌, List, [], ◌∷◌, map, length, get_or, drop, set, replicate, unwrap_or, Some, None, Ok, Err, Option, Result, sym, refl, ap, ◌∙◌, inl, inr, arith}
use Rattle.fault.specs.declared.Fault.{Fault}
use Rattle.field.specs.declared.Number.{Number}
use Rattle.std.specs.declared.ops.ControlFlow.TheVariants.{Continue, Break}
use Rattle.field.specs.Uleb.{decoded, limited, misshapen, Gathered, gathered, none_yet}
use Rattle.field.proofs.Onward.{prefixed, pending, Steps, stepped, some_taken}
use Rattle.std.specs.List.{range_with_len}
use Rattle.std.proofs.Math.Bool.{or_assoc}
use Rattle.std.proofs.lemmas.Bool.{cases_eq, eq-eqb, ne_eqb, lt-ltb, le-ltb, cases_lt}
use Rattle.std.proofs.lemmas.List.{drop_more, drop_all, length-replicate, get_or-replicate, length-set, get_or-set_same, get_or-set_other}
use Rattle.std.proofs.lemmas.List.FromFn.{fill_by_all}
use Rattle.checklist.specs.Checks.{first_fault}
use Rattle.checklist.proofs.Checks.{append_none, append_some}
use Rattle.elf.specs.declared.Symbol.{Symbol}
use Rattle.elf.specs.Layout.{outside}
use Rattle.rules.specs.Notes.{listed_in}
use Rattle.rules.specs.Rules.{symbols, symbol}
use Rattle.reading.specs.declared.Begun.{Begun}
use Rattle.rules.specs.Listing.{Item, left_of, items, number_checks, item_checks, defined_in, lists, marked}

-- the items that the bytes tell, of which the first is the number h and `passed` bytes of it stand before p
abbrev front : Begun → ℕ → List ℕ → ℕ → List ℕ → List Item
front h passed ys p xs =
    record { place = h.from; number = pending h.number.taken h.number.value h.from ys }
    ∷ items (left_of (pending h.number.taken h.number.value h.from ys) passed) p xs

-- the items that are left, where a number may be begun
abbrev pub rest : Option Begun → ℕ → List ℕ → List Item
rest None p xs = items (Some 0) p xs
rest (Some h) p xs = front h h.number.taken xs p xs

-- the number that the byte at the place `here` belongs to: the one that is begun, or one that begins here
abbrev pub at_hand : Option Begun → ℕ → Begun
at_hand None here = record { number = none_yet; from = here }
at_hand (Some h) here = h

abbrev pub all : ℕ → List ℕ → List Item
all base bytes = items (Some 0) base bytes

-- the same, as the library's unwrap_or tells it
pub belongs : (o : Option Begun) (here : ℕ) (n : Number) (h : Begun) → n ≡ none_yet → h ≡ unwrap_or o (record { number = n; from = here }) → h ≡ at_hand o here
belongs None here n h e f = f ∙ ap (λ (m : Number). record { number = m; from = here }) e
belongs (Some b) here n h e f = f

pub record Scanned (b : List ℕ) (base : ℕ) (bytes : List ℕ) (i : ℕ) (begun : Option Begun) (marks : List Bool) : Type 0 where
  pub few : (at_hand begun (base + i)).number.taken ≤ 4
  pub small : (at_hand begun (base + i)).number.value < 128 ^ (at_hand begun (base + i)).number.taken
  pub size : length marks ≡ 1024
  pub clear : first_fault (item_checks (symbols b).count (rest begun (base + i) (drop i bytes)))
      ≡ first_fault (item_checks (symbols b).count (all base bytes))
  pub noted : (s : ℕ) → s < 1024
      → (get_or marks s false || lists b s (rest begun (base + i) (drop i bytes))) ≡ lists b s (all base bytes)

-- no byte read
zero_prefix : (o : Option Number) → prefixed 0 0 o ≡ o
zero_prefix None = refl
zero_prefix (Some m) =
    let v : 0 + 1 * m.value ≡ m.value = omega arith
    in let t : 0 + m.taken ≡ m.taken = omega arith
    in rw (v, t)

-- a number that is read has more bytes than were read before its last
more_taken : (k v p : ℕ) (xs : List ℕ) (m : Number) → pending k v p xs ≡ Ok m → k < m.taken
more_taken k v p xs m e = go (decoded xs) refl e
  where
    go : (o : Option Number) → decoded xs ≡ o → limited (prefixed k v o) p ≡ Ok m → k < m.taken
    go None q e' = let z : ◌≡◌ {A = ℕ} 0 1 = cc in absurd (omega arith)
    go (Some n) q e' = here (leb (k + n.taken) 5 && ltb (v + 128 ^ k * n.value) (2 ^ 32)) e'
      where
        here : (t : Bool) → cond t (Ok (record { value = v + 128 ^ k * n.value; taken = k + n.taken })) (Err (misshapen p)) ≡ Ok m → k < m.taken
        here true d =
            let r : record { value = v + 128 ^ k * n.value; taken = k + n.taken } ≡ m = cc
            in omega (arith, ap (λ (x : Number). x.taken) r, some_taken xs n q)
        here false d = let z : ◌≡◌ {A = ℕ} 0 1 = cc in absurd (omega arith)

-- a number that is refused is so at its first byte
refused_is : (o : Option Number) (p : ℕ) (f : Fault) → limited o p ≡ Err f → misshapen p ≡ f
refused_is None p f e = cc
refused_is (Some n) p f e = here (leb n.taken 5 && ltb n.value (2 ^ 32)) e
  where
    here : (t : Bool) → cond t (Ok n) (Err (misshapen p)) ≡ Err f → misshapen p ≡ f
    here true d = let z : ◌≡◌ {A = ℕ} 0 1 = cc in absurd (omega arith)
    here false d = cc

no_items : (p : ℕ) (xs : List ℕ) → items None p xs ≡ []
no_items p [] = refl
no_items p (x ∷ xs) = refl

-- what is left, with the number at hand in front
unrolled : (o : Option Begun) (p x : ℕ) (xs : List ℕ) → rest o p (x ∷ xs) ≡ front (at_hand o p) (suc (at_hand o p).number.taken) (x ∷ xs) (suc p) xs
unrolled None p x xs =
    let f : Result Number Fault → List Item = λ r. record { place = p; number = r } ∷ items (left_of r 1) (suc p) xs
    in sym (ap f (ap (λ (o : Option Number). limited o p) (zero_prefix (decoded (x ∷ xs)))))
unrolled (Some h) p x xs = go (pending h.number.taken h.number.value h.from (x ∷ xs)) refl
  where
    go : (r : Result Number Fault) → pending h.number.taken h.number.value h.from (x ∷ xs) ≡ r
        → ◌≡◌ {A = List Item} (record { place = h.from; number = r } ∷ items (left_of r h.number.taken) p (x ∷ xs))
        (record { place = h.from; number = r } ∷ items (left_of r (suc h.number.taken)) (suc p) xs)
    go (Err f) e = ap (λ (its : List Item). record { place = h.from; number = Err f } ∷ its) (sym (no_items (suc p) xs))
    go (Ok m) e =
        let l = more_taken h.number.taken h.number.value h.from (x ∷ xs) m e
        in let d : m.taken - h.number.taken ≡ suc (m.taken - suc h.number.taken) = omega arith
        in ap (λ (j : ℕ). record { place = h.from; number = Ok m } ∷ items (Some j) p (x ∷ xs)) d

-- what one byte more makes of what is left
abbrev pub Turn : ℕ → ℕ → ℕ → List Item → List ℕ → Result Gathered Fault → Type 0
Turn count from p its xs (Err f) = first_fault (item_checks count its) ≡ Some f
Turn count from p its xs (Ok (Break m)) = its ≡ (record { place = from; number = Ok m } ∷ items (Some 0) (suc p) xs)
Turn count from p its xs (Ok (Continue m)) =
    (m.taken ≤ 4) × (m.value < 128 ^ m.taken) × (its ≡ rest (Some (record { number = m; from = from })) (suc p) xs)

turned : (count : ℕ) (o : Option Begun) (p x : ℕ) (xs : List ℕ) (r : Result Gathered Fault) → (at_hand o p).number.taken ≤ 4
    → (at_hand o p).number.value < 128 ^ (at_hand o p).number.taken → x < 256
    → r ≡ gathered (at_hand o p).number x (at_hand o p).from
    → Turn count (at_hand o p).from p (rest o p (x ∷ xs)) xs r
turned count o p x xs r l v b e = go (at_hand o p) r (unrolled o p x xs) (stepped (at_hand o p).number x (at_hand o p).from xs r l v b e)
  where
    go : (h : Begun) (r : Result Gathered Fault) → rest o p (x ∷ xs) ≡ front h (suc h.number.taken) (x ∷ xs) (suc p) xs
        → Steps h.number.taken h.number.value x h.from xs r
        → Turn count h.from p (rest o p (x ∷ xs)) xs r
    go h (Err f) u s =
        let g : Result Number Fault → List Item = λ y. record { place = h.from; number = y } ∷ items (left_of y (suc h.number.taken)) (suc p) xs
        in ap (λ (i : List Item). first_fault (item_checks count i)) (u ∙ ap g s)
        ∙ ap Some (refused_is (prefixed h.number.taken h.number.value (decoded (x ∷ xs))) h.from f s)
    go h (Ok (Break m)) u s =
        let g : Result Number Fault → List Item = λ y. record { place = h.from; number = y } ∷ items (left_of y (suc h.number.taken)) (suc p) xs
        in let d : m.taken - suc h.number.taken ≡ 0 = omega (arith, s.1)
        in u ∙ (ap g s.0 ∙ ap (λ (j : ℕ). record { place = h.from; number = Ok m } ∷ items (Some j) (suc p) xs) d)
    go h (Ok (Continue m)) u s =
        let g : Result Number Fault → List Item = λ y. record { place = h.from; number = y } ∷ items (left_of y (suc h.number.taken)) (suc p) xs
        in rw s.0 (s.1, s.2, u ∙ ap g s.3)

-- the marks of sections, one symbol more

or_none : (a : Bool) → (a || false) ≡ a
or_none true = refl
or_none false = refl

or_all : (a : Bool) → (a || true) ≡ true
or_all true = refl
or_all false = refl

marked_is : (y : Symbol) (xs : List Bool) (s : ℕ) → s < 1024 → length xs ≡ 1024 → get_or (marked y xs) s false ≡ (get_or xs s false || defined_in y s)
marked_is y xs s h len = go (outside y.section) (cases_lt y.section 1024) (cases_eq y.section s)
  where
    go : (o : Bool) → (y.section < 1024) ⊎ (1024 ≤ y.section) → (y.section ≡ s) ⊎ (y.section ≡ s → ⊥)
        → get_or (cond (not o && ltb y.section 1024) (set xs y.section true) xs) s false ≡ (get_or xs s false || (not o && eqb y.section s))
    go true l q = sym (or_none (get_or xs s false))
    go false (inl l) (inl q) =
        let lt = lt-ltb y.section 1024 l
        in let eq = eq-eqb y.section s q
        in let here : s < length xs = omega arith
        in let same : get_or (set xs y.section true) s false ≡ true = ap (λ (i : ℕ). get_or (set xs i true) s false) q ∙ get_or-set_same xs s true false here
        in rw (lt, eq) (same ∙ sym (or_all (get_or xs s false)))
    go false (inl l) (inr q) =
        let lt = lt-ltb y.section 1024 l
        in let ne = ne_eqb y.section s q
        in let other : s ≢ y.section = λ e. q (sym e)
        in rw (lt, ne) (get_or-set_other xs y.section s true false other ∙ sym (or_none (get_or xs s false)))
    go false (inr l) q =
        let ge = le-ltb y.section 1024 l
        in let ne = ne_eqb y.section s (λ e. omega arith)
        in rw (ge, ne) (sym (or_none (get_or xs s false)))

marked_size : (y : Symbol) (xs : List Bool) → length (marked y xs) ≡ length xs
marked_size y xs = go (not (outside y.section) && ltb y.section 1024)
  where
    go : (t : Bool) → length (cond t (set xs y.section true) xs) ≡ length xs
    go true = length-set xs y.section true
    go false = refl

pub begin : (b : List ℕ) (base : ℕ) (bytes : List ℕ) → Scanned b base bytes 0 None (replicate 1024 false)
begin b base bytes =
    let z : base + 0 ≡ base = omega arith
    in record {
      few = omega arith;
      small = omega arith;
      size = length-replicate {A = Bool} 1024 false;
      clear = rw z refl;
      noted = λ s h. rw (z, get_or-replicate {A = Bool} 1024 s false false h) refl;
    }

module _ (b : List ℕ) (base : ℕ) (bytes : List ℕ) (i : ℕ) (begun : Option Begun) (marks : List Bool) where
  next : suc (base + i) ≡ base + (i + 1)
  next = omega arith

  -- what was read, and the byte at hand in front of those that are left, which belongs to the number h
  module _ (h : Begun) (w : Scanned b base bytes i begun marks) (q : h ≡ at_hand begun (base + i)) (lt : i < length bytes) (x : get_or bytes i 0 < 256) where
    turn_at : (r : Result Gathered Fault) → r ≡ gathered h.number (get_or bytes i 0) h.from
        → Turn (symbols b).count h.from (base + i) (rest begun (base + i) (drop i bytes)) (drop (i + 1) bytes) r
    turn_at r e =
        rw (q, drop_more bytes i 0 lt)
        (turned (symbols b).count begun (base + i) (get_or bytes i 0) (drop (i + 1) bytes) r w.few w.small x (rw q at e))

    -- the number does not form
    pub bad_number : (f : Fault) → Err f ≡ gathered h.number (get_or bytes i 0) h.from → first_fault (item_checks (symbols b).count (all base bytes)) ≡ Some f
    bad_number f e = sym w.clear ∙ turn_at (Err f) e

    -- the number goes on
    pub goes_on : (m : Number) → Ok (Continue m) ≡ gathered h.number (get_or bytes i 0) h.from
        → Scanned b base bytes (i + 1) (Some (record { number = m; from = h.from })) marks
    goes_on m e =
        let t = turn_at (Ok (Continue m)) e
        in let more : Begun = record { number = m; from = h.from }
        in let same : rest begun (base + i) (drop i bytes) ≡ rest (Some more) (base + (i + 1)) (drop (i + 1) bytes)
        = t.2 ∙ ap (λ (p : ℕ). rest (Some more) p (drop (i + 1) bytes)) next
        in record {
          few = t.0;
          small = t.1;
          size = w.size;
          clear = ap (λ (its : List Item). first_fault (item_checks (symbols b).count its)) (sym same) ∙ w.clear;
          noted = λ s l. ap (λ (its : List Item). get_or marks s false || lists b s its) (sym same) ∙ w.noted s l;
        }

    ended : (m : Number) → Ok (Break m) ≡ gathered h.number (get_or bytes i 0) h.from
        → rest begun (base + i) (drop i bytes)
        ≡ (record { place = h.from; number = Ok m } ∷ items (Some 0) (base + (i + 1)) (drop (i + 1) bytes))
    ended m e =
        turn_at (Ok (Break m)) e
        ∙ ap (λ (p : ℕ). record { place = h.from; number = Ok m } ∷ items (Some 0) p (drop (i + 1) bytes)) next

    -- the number is whole, and no symbol
    pub no_symbol : (f : Fault) (m : Number) → Ok (Break m) ≡ gathered h.number (get_or bytes i 0) h.from
        → first_fault (number_checks (symbols b).count h.from (Ok m)) ≡ Some f
        → first_fault (item_checks (symbols b).count (all base bytes)) ≡ Some f
    no_symbol f m e g =
        sym w.clear
        ∙ (ap (λ (its : List Item). first_fault (item_checks (symbols b).count its)) (ended m e)
        ∙ append_some (number_checks (symbols b).count h.from (Ok m))
        (item_checks (symbols b).count (items (Some 0) (base + (i + 1)) (drop (i + 1) bytes))) f g)

    -- the number is whole, and a symbol
    pub is_whole : (m : Number) → Ok (Break m) ≡ gathered h.number (get_or bytes i 0) h.from
        → first_fault (number_checks (symbols b).count h.from (Ok m)) ≡ None
        → Scanned b base bytes (i + 1) None (marked (symbol b m.value) marks)
    is_whole m e g =
        let same = ended m e
        in let left : List Item = items (Some 0) (base + (i + 1)) (drop (i + 1) bytes)
        in record {
          few = omega arith;
          small = omega arith;
          size = marked_size (symbol b m.value) marks ∙ w.size;
          clear =
              sym (append_none (number_checks (symbols b).count h.from (Ok m)) (item_checks (symbols b).count left) g)
              ∙ (ap (λ (its : List Item). first_fault (item_checks (symbols b).count its)) (sym same) ∙ w.clear);
          noted = λ s l.
              ap (λ (t : Bool). t || lists b s left) (marked_is (symbol b m.value) marks s l w.size)
              ∙ (or_assoc (get_or marks s false) (defined_in (symbol b m.value) s) (lists b s left)
              ∙ (ap (λ (its : List Item). get_or marks s false || lists b s its) (sym same) ∙ w.noted s l));
        }

  -- the bytes end within a number
  pub cut_off : (h : Begun) → Scanned b base bytes i begun marks → length bytes ≤ i → begun ≡ Some h
      → first_fault (item_checks (symbols b).count (all base bytes)) ≡ Some (misshapen h.from)
  cut_off h w l e =
      sym w.clear
      ∙ (ap (λ (xs : List ℕ). first_fault (item_checks (symbols b).count (rest begun (base + i) xs))) (drop_all i bytes l)
      ∙ ap (λ (o : Option Begun). first_fault (item_checks (symbols b).count (rest o (base + i) []))) e)

  -- the bytes end after a number
  pub all_read : Scanned b base bytes i begun marks → length bytes ≤ i → begun ≡ None
      → (first_fault (item_checks (symbols b).count (all base bytes)) ≡ None) × (marks ≡ map (listed_in b (all base bytes)) (range_with_len 0 1024))
  all_read w l e =
      let done : rest begun (base + i) (drop i bytes) ≡ []
      = ap (λ (xs : List ℕ). rest begun (base + i) xs) (drop_all i bytes l) ∙ ap (λ (o : Option Begun). rest o (base + i) []) e
      in (
        sym w.clear ∙ ap (λ (its : List Item). first_fault (item_checks (symbols b).count its)) done,
        fill_by_all (listed_in b (all base bytes)) marks 1024 false w.size
            (λ s h. sym (or_none (get_or marks s false)) ∙ (ap (λ (its : List Item). get_or marks s false || lists b s its) (sym done) ∙ w.noted s h)),
      )

-- the same state, told otherwise
pub moved : (b : List ℕ) (base : ℕ) (bytes : List ℕ) (i : ℕ) (begun begun' : Option Begun) (marks marks' : List Bool)
    → begun ≡ begun' → marks ≡ marks' → Scanned b base bytes i begun' marks' → Scanned b base bytes i begun marks
moved b base bytes i begun begun' marks marks' p q w = rw (p, q) w
