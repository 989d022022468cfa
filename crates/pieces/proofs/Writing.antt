-- Texts written over the front of a buffer, one behind the other.
use Rattle.std.proofs.Common.{◌≡◌, ℕ, zero, suc, ◌+◌, ◌-◌, ◌<◌, ◌≤◌, ◌⊎◌, List, [], ◌++◌, length, Ok, Err, Result, IfOk, sym, refl, ap, subst, ◌∙◌, inl, inr, append_assoc, add-one, arith}
use borrow.Rule.Slice.PartMut.{put_mid, same_len_mid}
use Rattle.std.specs.List.{between, range_with_len, sum_by}
use Rattle.std.proofs.lemmas.List.Sums.{sum_by-cons}
use Rattle.std.proofs.lemmas.List.{append-nil, length-append, length-drop}
use Rattle.std.proofs.lemmas.Slice.{between_to_end}
use Rattle.std.proofs.lemmas.Bool.{cases_lt}
use Rattle.fault.specs.declared.Fault.{Fault}
use Rattle.row_writer.specs.Writing.{small, wrote, over, put, put_at}
use Rattle.row_writer.proofs.Puts.{wrote_fits, wrote_short, put_fits, put_short, length_over, put_at_start, put_at_put_at, put_lent}
use Rattle.pieces.specs.Writes.{Writes, Written, pieces}

-- what the writer of a row writes
pub row_written : (row old new : List ℕ) (answer : Result ℕ Fault) → answer ≡ wrote row old → new ≡ put row old → Writes row old new answer
row_written row old new answer e p =
    record {
      inside = go (cases_lt (length old) (length row));
      keeps = kept (cases_lt (length old) (length row));
      long = λ room. e ∙ wrote_fits row old room;
      put = λ room. p ∙ put_fits row old room;
    }
  where
    go : (length old < length row) ⊎ (length row ≤ length old) → IfOk answer (λ n. n ≤ length old)
    go (inl short) = subst (λ r. IfOk r (λ n. n ≤ length old)) (sym (e ∙ wrote_short row old short)) tt
    go (inr room) = subst (λ r. IfOk r (λ n. n ≤ length old)) (sym (e ∙ wrote_fits row old room)) room

    kept : (length old < length row) ⊎ (length row ≤ length old) → length new ≡ length old
    kept (inl short) = ap length (p ∙ put_short row old short)
    kept (inr room) = ap length (p ∙ put_fits row old room) ∙ length_over row old room

-- what is answered of a text, and what stands in the buffer, where there is no room for it and where there is

pub refused_short : (text b : List ℕ) (needed : ℕ) → needed ≡ length text → length b < needed → wrote text b ≡ Err (small needed)
refused_short text b needed e h = wrote_short text b (omega arith) ∙ ap (λ n. Err (small n)) (sym e)

pub kept_short : (text b : List ℕ) (needed : ℕ) → needed ≡ length text → length b < needed → put text b ≡ b
kept_short text b needed e h = put_short text b (omega arith)

pub answered : (text old new : List ℕ) (answer : Result ℕ Fault) → Writes text old new answer → length text ≤ length old → answer ≡ wrote text old
answered text old new answer w room = w.long room ∙ sym (wrote_fits text old room)

pub stands : (text old new : List ℕ) (answer : Result ℕ Fault) → Writes text old new answer → length text ≤ length old → new ≡ put text old
stands text old new answer w room = w.put room ∙ sym (put_fits text old room)

-- what the writer of a row writes, by what it answers

pub row_ok : {row old new : List ℕ} {r : Result ℕ Fault} {n : ℕ} → r ≡ wrote row old → new ≡ put row old → r ≡ Ok n → Writes row old new (Ok n)
row_ok {row} {old} {new} {r} {n} e p k = subst (Writes row old new) k (row_written row old new r e p)

pub row_err : {row old new : List ℕ} {r : Result ℕ Fault} {fault : Fault} → r ≡ wrote row old → new ≡ put row old → r ≡ Err fault → Writes row old new (Err fault)
row_err {row} {old} {new} {r} {fault} e p k = subst (Writes row old new) k (row_written row old new r e p)

-- nothing
pub none_written : (b : List ℕ) → Writes [] b b (Ok 0)
none_written b = record { inside = omega arith; keeps = refl; long = λ room. refl; put = λ room. refl }

-- a refusal with more to write
pub stopped : (text whole old new : List ℕ) (fault : Fault) → length text ≤ length whole → Writes text old new (Err fault) → Writes whole old new (Err fault)
stopped text whole old new fault longer w =
    let refused : length whole ≤ length old → ⊥ =
    λ (room : length whole ≤ length old). let e = w.long (omega arith) in let z : ◌≡◌ {A = ℕ} 0 1 = cc in omega arith in
    record { inside = tt; keeps = w.keeps; long = λ room. absurd (refused room); put = λ room. absurd (refused room) }

pub stopped_before : {whole old new : List ℕ} {fault : Fault} (text rest : List ℕ) → text ++ rest ≡ whole → Writes text old new (Err fault) → Writes whole old new (Err fault)
stopped_before {whole} {old} {new} {fault} text rest split w =
    stopped text whole old new fault (omega (arith, ap length split, length-append text rest)) w

-- the same text in other words
pub restated : {text whole old new : List ℕ} {answer : Result ℕ Fault} → text ≡ whole → Writes text old new answer → Writes whole old new answer
restated {text} {whole} {old} {new} {answer} e w = subst (λ t. Writes t old new answer) e w

-- an answer of the second of two writers, behind the n bytes of the first
abbrev pub behind : ℕ → Result ℕ Fault → Result ℕ Fault
behind n (Ok m) = Ok (n + m)
behind n (Err fault) = Err fault

module _ (a t b mid last : List ℕ) (n : ℕ) (r : Result ℕ Fault) (w : Writes a b mid (Ok n)) (v : Writes t (between n (length mid) mid) last r) where
  part : length (between n (length mid) mid) ≡ length mid - n
  part = ap length (between_to_end mid n (length mid) (omega arith)) ∙ length-drop n mid

  ends : length a ≤ length b → n ≡ length a
  ends room = let e = w.long room in cc

  room_first : length (a ++ t) ≤ length b → length a ≤ length b
  room_first room = omega (arith, length-append a t)

  room_second : length (a ++ t) ≤ length b → length t ≤ length (between n (length mid) mid)
  room_second room = omega (arith, length-append a t, part, ends (room_first room), w.keeps)

  -- what two writers write, the second behind the first
  pub both_written : Writes (a ++ t) b (put_mid n (length mid - n) mid last) (behind n r)
  both_written =
      record {
        inside = go r v.inside;
        keeps = same_len_mid n (length mid - n) mid last v.keeps ∙ w.keeps;
        long = λ room. ap (behind n) (v.long (room_second room)) ∙ ap (λ k. Ok k) (omega (arith, ends (room_first room), length-append a t));
        put = λ room. stands room;
      }
    where
      go : (q : Result ℕ Fault) → IfOk q (λ m. m ≤ length (between n (length mid) mid)) → IfOk (behind n q) (λ m. m ≤ length b)
      go (Ok m) h = omega (arith, part, w.inside, w.keeps)
      go (Err fault) h = tt

      stands : length (a ++ t) ≤ length b → put_mid n (length mid - n) mid last ≡ over (a ++ t) b
      stands room =
          let fits : n + length t ≤ length mid = omega (arith, room_second room, part, w.inside, w.keeps) in
          let all : 0 + length a + length t ≤ length b = omega (arith, room, length-append a t) in
          ap (put_mid n (length mid - n) mid) (v.put (room_second room) ∙ sym (put_fits t (between n (length mid) mid) (room_second room)))
          ∙ put_lent n t mid fits
          ∙ ap (λ k. put_at k t mid) (ends (room_first room))
          ∙ ap (put_at (length a) t) (w.put (room_first room) ∙ sym (put_at_start a b))
          ∙ ap (λ k. put_at k t (put_at 0 a b)) (let z : length a ≡ 0 + length a = omega arith in z)
          ∙ put_at_put_at 0 a t b all
          ∙ put_at_start (a ++ t) b

-- the same, by what the second answers

pub both_ok : {a t b mid last : List ℕ} {n m : ℕ} {r : Result ℕ Fault} → Writes a b mid (Ok n) → Writes t (between n (length mid) mid) last r → r ≡ Ok m
    → Writes (a ++ t) b (put_mid n (length mid - n) mid last) (Ok (n + m))
both_ok {a} {t} {b} {mid} {last} {n} {m} {r} w v e =
    subst (λ q. Writes (a ++ t) b (put_mid n (length mid - n) mid last) (behind n q)) e (both_written a t b mid last n r w v)

pub both_err : {a t b mid last : List ℕ} {n : ℕ} {fault : Fault} {r : Result ℕ Fault} → Writes a b mid (Ok n) → Writes t (between n (length mid) mid) last r → r ≡ Err fault
    → Writes (a ++ t) b (put_mid n (length mid - n) mid last) (Err fault)
both_err {a} {t} {b} {mid} {last} {n} {fault} {r} w v e =
    subst (λ q. Writes (a ++ t) b (put_mid n (length mid - n) mid last) (behind n q)) e (both_written a t b mid last n r w v)

-- where the first ends is in the buffer, and so is where the second ends
pub first_ends : {a b mid : List ℕ} {n : ℕ} → Writes a b mid (Ok n) → n ≤ length mid
first_ends w = omega (arith, w.inside, w.keeps)

pub both_end : {a t b mid last : List ℕ} {n m : ℕ} {r : Result ℕ Fault} → Writes a b mid (Ok n) → Writes t (between n (length mid) mid) last r → r ≡ Ok m → n + m ≤ length mid
both_end w v e = let z = (both_ok w v e).inside in omega (arith, w.keeps)

-- the same of two writers by what each answers, as a function meets it that has called both

pub first_within : (a b mid : List ℕ) (n : ℕ) (q : Result ℕ Fault) → Writes a b mid q → q ≡ Ok n → n ≤ length mid
first_within a b mid n q w e = first_ends (subst (Writes a b mid) e w)

pub both_within : (a t b mid last : List ℕ) (n m : ℕ) (q r : Result ℕ Fault) → Writes a b mid q → q ≡ Ok n → Writes t (between n (length mid) mid) last r → r ≡ Ok m
    → n + m ≤ length mid
both_within a t b mid last n m q r w e v f = both_end (subst (Writes a b mid) e w) v f

pub both_done : (a t b mid last : List ℕ) (n m : ℕ) (q r : Result ℕ Fault) → Writes a b mid q → q ≡ Ok n → Writes t (between n (length mid) mid) last r → r ≡ Ok m
    → Written (a ++ t) b (put_mid n (length mid - n) mid last) (Ok (n + m))
unfolding Written
both_done a t b mid last n m q r w e v f = both_ok (subst (Writes a b mid) e w) v f

pub second_stopped : (a t b mid last : List ℕ) (n : ℕ) (q r : Result ℕ Fault) (fault : Fault) → Writes a b mid q → q ≡ Ok n → Writes t (between n (length mid) mid) last r → r ≡ Err fault
    → Written (a ++ t) b (put_mid n (length mid - n) mid last) (Err fault)
unfolding Written
second_stopped a t b mid last n q r fault w e v f = both_err (subst (Writes a b mid) e w) v f

pub first_stopped : (a t b mid : List ℕ) (q : Result ℕ Fault) (fault : Fault) → Writes a b mid q → q ≡ Err fault → Written (a ++ t) b mid (Err fault)
unfolding Written
first_stopped a t b mid q fault w e = stopped_before a t refl (subst (Writes a b mid) e w)

pub as_writes : {text old new : List ℕ} {answer : Result ℕ Fault} → Written text old new answer → Writes text old new answer
unfolding Written
as_writes w = w

-- pieces

pub pieces_more : (piece : ℕ → List ℕ) (k : ℕ) → pieces piece (k + 1) ≡ pieces piece k ++ piece k
pieces_more piece k = ap (pieces piece) (add-one k)

pub pieces_grow : (piece : ℕ → List ℕ) (k n : ℕ) → k ≤ n → length (pieces piece k) ≤ length (pieces piece n)
pieces_grow piece k zero h = let same : k ≡ 0 = omega arith in let e = ap (λ j. length (pieces piece j)) same in omega arith
pieces_grow piece k (suc n) h = go (cases_lt k (suc n)) (λ l. pieces_grow piece k n l)
  where
    go : (k < suc n) ⊎ (suc n ≤ k) → (k ≤ n → length (pieces piece k) ≤ length (pieces piece n)) → length (pieces piece k) ≤ length (pieces piece (suc n))
    go (inl low) grow = omega (arith, grow (omega arith), length-append (pieces piece n) (piece n))
    go (inr high) grow = let same : k ≡ suc n = omega arith in let e = ap (λ j. length (pieces piece j)) same in omega arith

before : (piece rest : ℕ → List ℕ) (k : ℕ) → ((j : ℕ) → j < k → rest j ≡ piece j ++ rest (j + 1)) → pieces piece k ++ rest k ≡ rest 0
before piece rest zero more = refl
before piece rest (suc k) more =
    append_assoc (pieces piece k) (piece k) (rest (suc k))
    ∙ ap (λ j. pieces piece k ++ (piece k ++ rest j)) (sym (add-one k))
    ∙ ap (λ t. pieces piece k ++ t) (sym (more k (omega arith)))
    ∙ before piece rest k (λ j l. more j (omega arith))

-- a text in pieces: what is left of it begins with the next piece, until nothing is left
pub in_pieces : (piece rest : ℕ → List ℕ) (n : ℕ) → ((k : ℕ) → k < n → rest k ≡ piece k ++ rest (k + 1)) → rest n ≡ [] → pieces piece n ≡ rest 0
in_pieces piece rest n more none =
    sym (append-nil (pieces piece n)) ∙ ap (λ t. pieces piece n ++ t) (sym none) ∙ before piece rest n more

-- the lengths of the pieces add up

lengths_from : (piece : ℕ → List ℕ) (n s : ℕ)
    → length (pieces piece s) + sum_by (λ k. length (piece k)) (range_with_len s n) ≡ length (pieces piece (s + n))
lengths_from piece zero s =
    let same : s + 0 ≡ s = omega arith in
    omega (arith, ap (λ j. length (pieces piece j)) same)
lengths_from piece (suc n) s =
    let next : s + 1 + n ≡ s + suc n = omega arith in
    omega (
      arith,
      sum_by-cons (λ k. length (piece k)) s (range_with_len (s + 1) n),
      lengths_from piece n (s + 1),
      ap length (pieces_more piece s),
      length-append (pieces piece s) (piece s),
      ap (λ j. length (pieces piece j)) next,
    )

pub lengths_added : (piece : ℕ → List ℕ) (n : ℕ) → sum_by (λ k. length (piece k)) (range_with_len 0 n) ≡ length (pieces piece n)
lengths_added piece n =
    let all : 0 + n ≡ n = omega arith in
    omega (arith, lengths_from piece n 0, ap (λ j. length (pieces piece j)) all)
