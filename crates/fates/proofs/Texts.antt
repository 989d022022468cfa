-- A text is read as a map exactly if it is the text of one.
use Rattle.std.proofs.Common.{◌≡◌, ℕ, zero, suc, ◌+◌, ◌*◌, ◌<◌, ◌≤◌, Bool, true, false, not, cond, ◌⊎◌, List, [], ◌++◌, length, take, drop, set, Some, None, Ok, Err, Option, Result, sym, refl, ap, ◌∙◌, subst, inl, inr, append_assoc, arith}
use Rattle.std.specs.List.{range_with_len, find}
use Rattle.std.proofs.lemmas.Option.{none-some}
use Rattle.std.proofs.lemmas.List.{append-nil, length-append, length-take, length-replicate, length-set, take-append-drop, drop-drop, drop_at, take_at, drop_all, get_or-replicate, get_or_past, get_or-set_same, get_or-set_other, ext_get_or}
use Rattle.std.proofs.lemmas.Bool.{cases_lt, cases_eq, cond-false}
use Rattle.fault.specs.declared.Fault.{Fault}
use Rattle.row_part.specs.declared.Cause.{Cause}
use Rattle.row_part.specs.Parts.{and_then}
use Rattle.row_part.proofs.Parts.{and_then_only}
use Rattle.pieces.specs.Writes.{pieces}
use Rattle.fates.specs.declared.Fate.{Fate}
use Rattle.fates.specs.declared.Fate.TheVariants.{Own, Folded, Swept}
use Rattle.fates.specs.declared.FoldMap.{FoldMap}
use Rattle.fates.specs.Rows.{fate_row, read_row}
use Rattle.fates.specs.Maps.{fate_of, no_fates, fates_text, row_count, row_at, row_taken, rows_read, scanned, is_own, loose, unless_loose, checked, read_map}
use Rattle.fates.specs.Laws.{Sound, ReadBack, OnlyWritten}
use Rattle.fates.proofs.Scans.{made}
use Rattle.fates.proofs.Rows.{Lower, row_length, row_reads, Row, row_only}

-- pieces of a text

abbrev pub piece : List (Option Fate) → ℕ → List ℕ
piece fates s = fate_row s (fate_of fates s)

pub pieces_same : (f g : ℕ → List ℕ) (n : ℕ) → ((s : ℕ) → s < n → f s ≡ g s) → pieces f n ≡ pieces g n
pieces_same f g zero h = refl
pieces_same f g (suc n) h =
    ap (λ x. x ++ f n) (pieces_same f g n (λ s l. h s (omega arith))) ∙ ap (λ x. pieces g n ++ x) (h n (omega arith))

-- empty ones add nothing
pub pieces_none : (f : ℕ → List ℕ) (m n : ℕ) → m ≤ n → ((s : ℕ) → m ≤ s → s < n → f s ≡ []) → pieces f n ≡ pieces f m
pieces_none f m zero l h = ap (pieces f) (let z : 0 ≡ m = omega arith in z)
pieces_none f m (suc n) l h = go (cases_lt m (suc n)) (λ k. pieces_none f m n k (λ s a b. h s a (omega arith)))
  where
    go : (m < suc n) ⊎ (suc n ≤ m) → (m ≤ n → pieces f n ≡ pieces f m) → pieces f (suc n) ≡ pieces f m
    go (inl more) deeper =
        ap (λ x. pieces f n ++ x) (h n (omega arith) (omega arith)) ∙ append-nil (pieces f n) ∙ deeper (omega arith)
    go (inr last) deeper = ap (pieces f) (let z : suc n ≡ m = omega arith in z)

-- what stands before and behind one
pieces_split : (f : ℕ → List ℕ) (s n : ℕ) → s < n → (rest : List ℕ) × (pieces f n ≡ pieces f s ++ (f s ++ rest))
pieces_split f s zero h = absurd (omega arith)
pieces_split f s (suc n) h = go (cases_lt s n) (λ k. pieces_split f s n k)
  where
    go : (s < n) ⊎ (n ≤ s) → (s < n → (rest : List ℕ) × (pieces f n ≡ pieces f s ++ (f s ++ rest)))
        → (rest : List ℕ) × (pieces f (suc n) ≡ pieces f s ++ (f s ++ rest))
    go (inl more) deeper =
        let d = deeper more in (
          d.0 ++ f n,
          ap (λ x. x ++ f n) d.1 ∙ append_assoc (pieces f s) (f s ++ d.0) (f n) ∙ ap (λ x. pieces f s ++ x) (append_assoc (f s) d.0 (f n)),
        )
    go (inr last) deeper =
        ([], ap (λ k. pieces f k ++ f k) (let z : n ≡ s = omega arith in z) ∙ ap (λ x. pieces f s ++ x) (sym (append-nil (f s))))

pub text_is : (fates : List (Option Fate)) → fates_text fates ≡ pieces (piece fates) 1024
unfolding fates_text
text_is fates = refl

-- no section has a row
nothing : (s : ℕ) → fate_of no_fates s ≡ None
nothing s = go (cases_lt s 1024)
  where
    go : (s < 1024) ⊎ (1024 ≤ s) → fate_of no_fates s ≡ None
    go (inl low) = get_or-replicate 1024 s None None low
    go (inr high) = get_or_past no_fates s None (omega (arith, length-replicate {A = Option Fate} 1024 None))

-- what is read, without its answer

same_ok : (p q : ℕ × List (Option Fate)) → ◌≡◌ {A = Result (ℕ × List (Option Fate)) Fault} (Ok p) (Ok q) → p ≡ q
same_ok p q h = cc

same_map : (m n : FoldMap) → ◌≡◌ {A = Result FoldMap Fault} (Ok m) (Ok n) → m ≡ n
same_map m n h = cc

same_fates : (fates : List (Option Fate)) (m : FoldMap) → ◌≡◌ {A = Result FoldMap Fault} (Ok (record { fates = fates })) (Ok m) → fates ≡ m.fates
same_fates fates m h = ap (λ (x : FoldMap). x.fates) (same_map (record { fates = fates }) m h)

-- only the text of a map is read

-- what is known of the fates told by the first k rows, and of the text
record Prefix (t : List ℕ) (k : ℕ) (q : ℕ × List (Option Fate)) : Type 0 where
  long : length q.1 ≡ 1024
  few : q.0 ≤ 1024
  later : (s : ℕ) → q.0 ≤ s → fate_of q.1 s ≡ None
  lower : (s p : ℕ) → fate_of q.1 s ≡ Some (Folded p) → p < s
  text : pieces (piece q.1) q.0 ++ drop (38 * k) t ≡ t

none_yet : (t : List ℕ) → Prefix t 0 (0, no_fates)
none_yet t =
    record {
      long = length-replicate {A = Option Fate} 1024 None;
      few = omega arith;
      later = λ s h. nothing s;
      lower = λ s p e. absurd (none-some (Folded p) (sym (nothing s) ∙ e));
      text = refl;
    }

grown : (t : List ℕ) (k : ℕ) (q : ℕ × List (Option Fate)) (s : ℕ) (f : Fate) → Prefix t k q → Row q.0 (row_at t k) s f
    → Prefix t (suc k) (suc s, set q.1 s (Some f))
grown t k q s f before row =
    record {
      long = length-set q.1 s (Some f) ∙ before.long;
      few = omega (arith, row.few);
      later = λ u h. other u (λ (e : u ≡ s). omega (arith, h)) ∙ before.later u (omega (arith, row.late));
      lower = λ u p e. below u p e (cases_eq u s);
      text =
          append_assoc (pieces new s) (new s) rest
          ∙ ap (λ x. pieces new s ++ (x ++ rest)) (ap (fate_row s) itself ∙ sym (row.text short))
          ∙ ap (λ x. pieces new s ++ (row_at t k ++ x)) (sym behind)
          ∙ ap (λ x. pieces new s ++ x) (take-append-drop 38 (drop (38 * k) t))
          ∙ ap (λ x. x ++ drop (38 * k) t) earlier
          ∙ before.text;
    }
  where
    old : ℕ → List ℕ
    old = piece q.1

    new : ℕ → List ℕ
    new = piece (set q.1 s (Some f))

    rest : List ℕ
    rest = drop (38 * suc k) t

    itself : fate_of (set q.1 s (Some f)) s ≡ Some f
    itself = get_or-set_same q.1 s (Some f) None (omega (arith, before.long, row.few))

    other : (u : ℕ) → (u ≡ s → ⊥) → fate_of (set q.1 s (Some f)) u ≡ fate_of q.1 u
    other u apart = get_or-set_other q.1 s u (Some f) None apart

    short : length (row_at t k) ≤ 38
    short = omega (arith, length-take 38 (drop (38 * k) t))

    behind : drop 38 (drop (38 * k) t) ≡ rest
    behind = drop-drop 38 (38 * k) t ∙ ap (λ n. drop n t) (let z : 38 * k + 38 ≡ 38 * suc k = omega arith in z)

    earlier : pieces new s ≡ pieces old q.0
    earlier =
        pieces_same new old s (λ u l. ap (fate_row u) (other u (λ (e : u ≡ s). omega (arith, l))))
        ∙ pieces_none old q.0 s row.late (λ u a b. ap (fate_row u) (before.later u a))

    below : (u p : ℕ) → fate_of (set q.1 s (Some f)) u ≡ Some (Folded p) → (u ≡ s) ⊎ (u ≡ s → ⊥) → p < u
    below u p e (inl same) =
        let here : Some f ≡ Some (Folded p) = sym itself ∙ ap (fate_of (set q.1 s (Some f))) (sym same) ∙ e in
        let fate : f ≡ Folded p = cc in
        let l : p < s = subst (Lower s) fate row.lower in
        omega (arith, l, same)
    below u p e (inr apart) = before.lower u p (sym (other u apart) ∙ e)

next : (t : List ℕ) (k : ℕ) (q p : ℕ × List (Option Fate)) → Prefix t k q → row_taken k q (read_row q.0 (row_at t k)) ≡ Ok p → Prefix t (suc k) p
next t k q p before h = go (read_row q.0 (row_at t k)) refl h
  where
    go : (r : Result (ℕ × Fate) Cause) → read_row q.0 (row_at t k) ≡ r → row_taken k q r ≡ Ok p → Prefix t (suc k) p
    go (Err c) e taken = absurd (let z : ◌≡◌ {A = ℕ} 0 1 = cc in omega arith)
    go (Ok row) e taken =
        subst (Prefix t (suc k)) (same_ok (suc row.0, set q.1 row.0 (Some row.1)) p taken) (grown t k q row.0 row.1 before (row_only q.0 (row_at t k) row.0 row.1 e))

prefix : (t : List ℕ) (k : ℕ) (q : ℕ × List (Option Fate)) → rows_read t k ≡ Ok q → Prefix t k q
prefix t zero q h = subst (Prefix t 0) (same_ok (0, no_fates) q h) (none_yet t)
prefix t (suc k) q h =
    let p = and_then_only (rows_read t k) _ q h in
    next t k p.0 q (prefix t k p.0 p.1) p.2

-- the first number that passes a test

find_none : (p : ℕ → Bool) (n a : ℕ) → find p (range_with_len a n) ≡ None → (s : ℕ) → a ≤ s → s < a + n → p s ≡ false
find_none p zero a h s l u = absurd (omega arith)
find_none p (suc n) a h s l u = go (p a) refl h (cases_lt a s) (λ k later. find_none p n (a + 1) k s (omega arith) (omega arith))
  where
    go : (b : Bool) → p a ≡ b → cond b (Some a) (find p (range_with_len (a + 1) n)) ≡ None → (a < s) ⊎ (s ≤ a)
        → (find p (range_with_len (a + 1) n) ≡ None → a < s → p s ≡ false) → p s ≡ false
    go true e k c deeper = cc
    go false e k (inl later) deeper = deeper k later
    go false e k (inr here) deeper = ap p (let z : s ≡ a = omega arith in z) ∙ e

none_found : (p : ℕ → Bool) (n a : ℕ) → ((s : ℕ) → a ≤ s → s < a + n → p s ≡ false) → find p (range_with_len a n) ≡ None
none_found p zero a h = refl
none_found p (suc n) a h =
    cond-false (p a) _ _ (h a (omega arith) (omega arith)) ∙ none_found p n (a + 1) (λ s l u. h s (omega arith) (omega arith))

-- no row names a section that is not found at its own number

record Checked (fates : List (Option Fate)) (m : FoldMap) : Type 0 where
  same : fates ≡ m.fates
  tied : (s : ℕ) → s < 1024 → loose fates (fate_of fates s) ≡ false

checked_only : (fates : List (Option Fate)) (m : FoldMap) → checked fates ≡ Ok m → Checked fates m
checked_only fates m h = go (find (λ s. loose fates (fate_of fates s)) (range_with_len 0 1024)) refl h
  where
    go : (o : Option ℕ) → find (λ s. loose fates (fate_of fates s)) (range_with_len 0 1024) ≡ o → unless_loose fates o ≡ Ok m → Checked fates m
    go None e k =
        record {
          same = same_fates fates m k;
          tied = λ s l. find_none (λ u. loose fates (fate_of fates u)) 1024 0 e s (omega arith) (omega arith);
        }
    go (Some s) e k = absurd (let z : ◌≡◌ {A = ℕ} 0 1 = cc in omega arith)

owned : (o : Option Fate) → not (is_own o) ≡ false → o ≡ Some Own
owned None h = cc
owned (Some Own) h = refl
owned (Some (Folded p)) h = cc
owned (Some Swept) h = cc

-- the fates are those of a map, and the text is the map's
abbrev Told : List ℕ → List (Option Fate) → Type 0
Told t fates = Sound fates × (t ≡ fates_text fates)

told : (t : List ℕ) (q : ℕ × List (Option Fate)) → Prefix t (row_count t) q → ((s : ℕ) → s < 1024 → loose q.1 (fate_of q.1 s) ≡ false) → Told t q.1
told t q p tied = (
  record { long = p.long; lower = p.lower; own = λ s u e. tied_own s u e (cases_lt s 1024) },
  sym p.text ∙ ap (λ x. pieces (piece q.1) q.0 ++ x) (drop_all (38 * row_count t) t (omega arith)) ∙ append-nil (pieces (piece q.1) q.0)
      ∙ sym (pieces_none (piece q.1) q.0 1024 p.few (λ s a b. ap (fate_row s) (p.later s a)))
      ∙ sym (text_is q.1),
)
  where
    tied_own : (s u : ℕ) → fate_of q.1 s ≡ Some (Folded u) → (s < 1024) ⊎ (1024 ≤ s) → fate_of q.1 u ≡ Some Own
    tied_own s u e (inl low) = owned (fate_of q.1 u) (ap (loose q.1) (sym e) ∙ tied s low)
    tied_own s u e (inr high) = absurd (none-some (Folded u) (sym (get_or_past q.1 s None (omega (arith, p.long))) ∙ e))

pub only : OnlyWritten
only t m h =
    let a = and_then_only (scanned t) _ m h in
    let b = and_then_only (rows_read t (row_count t)) _ a.0 a.1 in
    let fates : b.0.1 ≡ a.0.fates = same_fates b.0.1 a.0 b.2 in
    let c = checked_only a.0.fates m a.2 in
    let tied : (s : ℕ) → s < 1024 → loose b.0.1 (fate_of b.0.1 s) ≡ false =
    subst (λ xs. (s : ℕ) → s < 1024 → loose xs (fate_of xs s) ≡ false) (sym fates) c.tied in
    subst (Told t) (fates ∙ c.same) (told t b.0 (prefix t (row_count t) b.0 b.1) tied)

-- the text of a map is read

rows_in : (t : List ℕ) (n : ℕ) → length t ≡ 38 * n → row_count t ≡ n
rows_in t n h = omega (arith, h)

abbrev checked_map : FoldMap → Result FoldMap Fault
checked_map m = checked m.fates

module _ (fates : List (Option Fate)) (sound : Sound fates) where
  -- some rows are read: those of the sections below s
  record Reached (s : ℕ) : Type 0 where
    count : ℕ
    low : ℕ
    so_far : List (Option Fate)
    read : rows_read (fates_text fates) count ≡ Ok (low, so_far)
    behind : low ≤ s
    long : length so_far ≡ 1024
    start : length (pieces (piece fates) s) ≡ 38 * count
    same : (u : ℕ) → u < s → fate_of so_far u ≡ fate_of fates u
    later : (u : ℕ) → s ≤ u → fate_of so_far u ≡ None

  lower_of : (s : ℕ) (f : Fate) → fate_of fates s ≡ Some f → Lower s f
  lower_of s Own e = tt
  lower_of s (Folded p) e = sound.lower s p e
  lower_of s Swept e = tt

  passed : (s : ℕ) → Reached s → fate_of fates s ≡ None → Reached (suc s)
  passed s r e =
      record {
        count = r.count;
        low = r.low;
        so_far = r.so_far;
        read = r.read;
        behind = omega (arith, r.behind);
        long = r.long;
        start = ap length (ap (λ x. pieces (piece fates) s ++ x) (ap (fate_row s) e) ∙ append-nil (pieces (piece fates) s)) ∙ r.start;
        same = λ u l. go u l (cases_lt u s);
        later = λ u l. r.later u (omega arith);
      }
    where
      go : (u : ℕ) → u < suc s → (u < s) ⊎ (s ≤ u) → fate_of r.so_far u ≡ fate_of fates u
      go u l (inl low) = r.same u low
      go u l (inr last) = r.later u last ∙ sym (ap (fate_of fates) (let z : u ≡ s = omega arith in z) ∙ e)

  row_read : (s : ℕ) (f : Fate) → s < 1024 → Reached s → fate_of fates s ≡ Some f → Reached (suc s)
  row_read s f few r e =
      record {
        count = suc r.count;
        low = suc s;
        so_far = set r.so_far s (Some f);
        read =
            ap (λ x. and_then x λ q. row_taken r.count q (read_row q.0 (row_at (fates_text fates) r.count))) r.read
            ∙ ap (λ x. row_taken r.count (r.low, r.so_far) (read_row r.low x)) here
            ∙ ap (row_taken r.count (r.low, r.so_far)) (row_reads r.low s f few r.behind lower);
        behind = omega arith;
        long = length-set r.so_far s (Some f) ∙ r.long;
        start = omega (arith, length-append (pieces (piece fates) s) (piece fates s), r.start, ap length row, long);
        same = λ u l. go u l (cases_eq u s);
        later = λ u l. other u (λ (e : u ≡ s). omega (arith, l)) ∙ r.later u (omega arith);
      }
    where
      lower : Lower s f
      lower = lower_of s f e

      row : piece fates s ≡ fate_row s (Some f)
      row = ap (fate_row s) e

      long : length (fate_row s (Some f)) ≡ 38
      long = row_length s f few lower

      here : row_at (fates_text fates) r.count ≡ fate_row s (Some f)
      here =
          let p = pieces_split (piece fates) s 1024 few in
          ap (λ x. take 38 (drop (38 * r.count) x)) (text_is fates ∙ p.1)
          ∙ ap (take 38) (drop_at (pieces (piece fates) s) (piece fates s ++ p.0) (38 * r.count) r.start)
          ∙ ap (λ x. take 38 (x ++ p.0)) row
          ∙ take_at (fate_row s (Some f)) p.0 38 long

      other : (u : ℕ) → (u ≡ s → ⊥) → fate_of (set r.so_far s (Some f)) u ≡ fate_of r.so_far u
      other u apart = get_or-set_other r.so_far s u (Some f) None apart

      go : (u : ℕ) → u < suc s → (u ≡ s) ⊎ (u ≡ s → ⊥) → fate_of (set r.so_far s (Some f)) u ≡ fate_of fates u
      go u l (inl last) =
          ap (fate_of (set r.so_far s (Some f))) last
          ∙ get_or-set_same r.so_far s (Some f) None (omega (arith, r.long, few))
          ∙ sym (ap (fate_of fates) last ∙ e)
      go u l (inr apart) = other u apart ∙ r.same u (omega (arith, apart))

  one_more : (s : ℕ) → s < 1024 → Reached s → (o : Option Fate) → fate_of fates s ≡ o → Reached (suc s)
  one_more s few r None e = passed s r e
  one_more s few r (Some f) e = row_read s f few r e

  reached : (s : ℕ) → s ≤ 1024 → Reached s
  reached zero h =
      record {
        count = 0;
        low = 0;
        so_far = no_fates;
        read = refl;
        behind = omega arith;
        long = length-replicate {A = Option Fate} 1024 None;
        start = refl;
        same = λ u l. absurd (omega (arith, l));
        later = λ u l. nothing u;
      }
  reached (suc s) h = one_more s (omega arith) (reached s (omega arith)) (fate_of fates s) refl

  tied : (s : ℕ) (o : Option Fate) → fate_of fates s ≡ o → loose fates o ≡ false
  tied s None e = refl
  tied s (Some Own) e = refl
  tied s (Some (Folded p)) e = ap (λ x. not (is_own x)) (sound.own s p e)
  tied s (Some Swept) e = refl

  text_read : read_map (fates_text fates) ≡ Ok (record { fates = fates })
  text_read =
      let r = reached 1024 (omega arith) in
      let all : r.so_far ≡ fates = ext_get_or None r.so_far fates (r.long ∙ sym sound.long) (λ u l. r.same u (omega (arith, l, r.long))) in
      ap (λ n. and_then (and_then (rows_read (fates_text fates) n) made) checked_map) (rows_in (fates_text fates) r.count (ap length (text_is fates) ∙ r.start))
      ∙ ap (λ x. and_then (and_then x made) checked_map) r.read
      ∙ ap checked all
      ∙ ap (unless_loose fates) (none_found (λ s. loose fates (fate_of fates s)) 1024 0 (λ s a b. tied s (fate_of fates s) refl))

pub back : ReadBack
back m sound = text_read m.fates sound
