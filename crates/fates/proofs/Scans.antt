-- The rows of a text are read one by one, from the part of it that is left.
use Rattle.std.proofs.Common.{◌≡◌, ℕ, zero, suc, ◌+◌, ◌*◌, ◌<◌, ◌≤◌, min, ◌⊎◌, List, [], ◌++◌, length, take, drop, set, Some, Ok, Err, Option, Result, sym, ap, ◌∙◌, inl, inr, add-one, arith}
use Rattle.std.proofs.lemmas.List.{append-nil, length-append, length-drop, drop-drop, drop_at, take_at, take_all, drop_all}
use Rattle.std.proofs.lemmas.Bool.{cases_lt}
use Rattle.fault.specs.declared.Fault.{Fault}
use Rattle.row_part.specs.declared.Cause.{Cause}
use Rattle.row_part.specs.Parts.{and_then}
use Rattle.fates.specs.declared.Fate.{Fate}
use Rattle.fates.specs.declared.FoldMap.{FoldMap}
use Rattle.fates.specs.Rows.{read_row}
use Rattle.fates.specs.Maps.{no_fates, bad_row_at, row_count, row_at, row_taken, rows_read, scanned}
use Rattle.fates.proofs.Rows.{row_only}

-- the map of what the rows told
abbrev pub made : ℕ × List (Option Fate) → Result FoldMap Fault
made q = Ok (record { fates = q.1 })

-- the rows before k are read, and the text behind them is left
pub record Turn (t : List ℕ) (k : ℕ) (rest : List ℕ) (size low : ℕ) (fates : List (Option Fate)) : Type 0 where
  pub left : rest ≡ drop (38 * k) t
  pub due : size ≡ 38
  pub early : k ≤ row_count t
  pub told : rows_read t k ≡ Ok (low, fates)

pub start : (t : List ℕ) (k : ℕ) (rest : List ℕ) (size : ℕ) (fates : List (Option Fate)) → rest ≡ t → size ≡ 38 → k ≡ 0 → fates ≡ no_fates
    → Turn t k rest size 0 fates
start t k rest size fates here due none new =
    record {
      left = here ∙ ap (λ n. drop n t) (let z : 0 ≡ 38 * k = omega (arith, none) in z);
      due = due;
      early = omega (arith, none);
      told = ap (rows_read t) none ∙ ap (λ xs. Ok (0, xs)) (sym new);
    }

-- a row that is refused ends all
pub refused : (t : List ℕ) (k n : ℕ) (fault : Fault) → rows_read t k ≡ Err fault → k ≤ n → rows_read t n ≡ Err fault
refused t k zero fault h l = ap (rows_read t) (let z : 0 ≡ k = omega arith in z) ∙ h
refused t k (suc n) fault h l = go (cases_lt k (suc n)) (λ m. refused t k n fault h m)
  where
    go : (k < suc n) ⊎ (suc n ≤ k) → (k ≤ n → rows_read t n ≡ Err fault) → rows_read t (suc n) ≡ Err fault
    go (inl later) earlier = ap (λ r. and_then r λ q. row_taken n q (read_row q.0 (row_at t n))) (earlier (omega arith))
    go (inr now) earlier = ap (rows_read t) (let z : suc n ≡ k = omega arith in z) ∙ h

-- the next part: a row, and what is left behind it

empty : (xs : List ℕ) → length xs ≡ 0 → xs ≡ []
empty xs h = drop_all 0 xs (omega (arith, h))

record Cut (n : ℕ) (rest row more : List ℕ) : Type 0 where
  front : row ≡ take n rest
  back : more ≡ drop n rest

cut : (n : ℕ) (rest row more : List ℕ) → rest ≡ row ++ more → length row ≡ min n (length rest) → Cut n rest row more
cut n rest row more e long = go (cases_lt (length rest) n)
  where
    all : length rest ≡ length row + length more
    all = ap length e ∙ length-append row more

    go : (length rest < n) ⊎ (n ≤ length rest) → Cut n rest row more
    go (inl short) =
        let none : more ≡ [] = empty more (omega (arith, all, long)) in
        let same : rest ≡ row = e ∙ ap (λ x. row ++ x) none ∙ append-nil row in
        record {
          front = sym (take_all n rest (omega arith) ∙ same);
          back = none ∙ sym (drop_all n rest (omega arith));
        }
    go (inr room) =
        let here : length row ≡ n = omega (arith, long) in
        record {
          front = sym (ap (take n) e ∙ take_at row more n here);
          back = sym (ap (drop n) e ∙ drop_at row more n here);
        }

module _ (t : List ℕ) (k : ℕ) (rest : List ℕ) (size low : ℕ) (fates : List (Option Fate)) (row more : List ℕ) (turn : Turn t k rest size low fates)
    (e : rest ≡ row ++ more) (long : length row ≡ min size (length rest)) (some : 0 < length rest) where
  parts : Cut 38 rest row more
  parts = cut 38 rest row more e (long ∙ ap (λ n. min n (length rest)) turn.due)

  here : row ≡ row_at t k
  here = parts.front ∙ ap (take 38) turn.left

  next : k + 1 ≤ row_count t
  next = omega (arith, some, ap length turn.left, length-drop (38 * k) t)

  turned : rows_read t (suc k) ≡ row_taken k (low, fates) (read_row low row)
  turned = ap (λ r. and_then r λ q. row_taken k q (read_row q.0 (row_at t k))) turn.told ∙ ap (λ x. row_taken k (low, fates) (read_row low x)) (sym here)

  pub taken : (k' : ℕ) (size' s : ℕ) (f : Fate) (fates' : List (Option Fate)) → k' ≡ k + 1 → size' ≡ size → read_row low row ≡ Ok (s, f) → fates' ≡ set fates s (Some f)
      → Turn t k' more size' (s + 1) fates'
  taken k' size' s f fates' counted same read noted =
      record {
        left = parts.back ∙ ap (drop 38) turn.left ∙ drop-drop 38 (38 * k) t ∙ ap (λ n. drop n t) (let z : 38 * k + 38 ≡ 38 * k' = omega (arith, counted) in z);
        due = same ∙ turn.due;
        early = omega (arith, counted, next);
        told =
            ap (rows_read t) (counted ∙ add-one k)
            ∙ turned
            ∙ ap (row_taken k (low, fates)) read
            ∙ ap (λ n. Ok (n, set fates s (Some f))) (sym (add-one s))
            ∙ ap (λ xs. Ok (s + 1, xs)) (sym noted);
      }

  pub stopped : (c : Cause) → read_row low row ≡ Err c → scanned t ≡ Err (bad_row_at (38 * k))
  stopped c read =
      ap (λ r. and_then r made)
      (refused t (suc k) (row_count t) _ (turned ∙ ap (row_taken k (low, fates)) read) (omega (arith, next)))

pub ended : (t : List ℕ) (k : ℕ) (rest : List ℕ) (size low : ℕ) (fates : List (Option Fate)) → Turn t k rest size low fates → length rest ≡ 0
    → scanned t ≡ Ok (record { fates = fates })
ended t k rest size low fates turn none =
    let last : row_count t ≡ k = omega (arith, turn.early, none, ap length turn.left, length-drop (38 * k) t) in
    ap (λ n. and_then (rows_read t n) made) last ∙ ap (λ r. and_then r made) turn.told

-- the number of a row that is read
pub few_sections : (low : ℕ) (row : List ℕ) (s : ℕ) (f : Fate) → read_row low row ≡ Ok (s, f) → s < 1024
few_sections low row s f read = (row_only low row s f read).few
