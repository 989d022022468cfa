-- Rows put into a buffer one after another.
use Rattle.std.proofs.Common.{◌≡◌, ℕ, ◌+◌, ◌-◌, ◌<◌, ◌≤◌, leb, List, [], ◌++◌, length, take, drop, Ok, Err, Result, sym, ap, ◌∙◌, append_assoc, arith}
use borrow.Rule.Slice.PartMut.{put_mid}
use Rattle.std.specs.List.{between}
use Rattle.std.proofs.lemmas.List.{append-nil, length-append, length-take-le, length-drop, take-append-drop, take_at, drop_at, drop-drop, drop_all}
use Rattle.std.proofs.lemmas.Slice.{between_to_end}
use Rattle.std.proofs.lemmas.Bool.{cond-true, cond-false, le-leb, lt-leb}
use Rattle.fault.specs.declared.Fault.{Fault}
use Rattle.row_writer.specs.Writing.{small, wrote, over, put, put_at}

-- whether there is room

pub wrote_fits : (row b : List ℕ) → length row ≤ length b → wrote row b ≡ Ok (length row)
unfolding wrote
wrote_fits row b h = cond-true (leb (length row) (length b)) _ _ (le-leb (length row) (length b) h)

pub wrote_short : (row b : List ℕ) → length b < length row → wrote row b ≡ Err (small (length row))
unfolding wrote
wrote_short row b h = cond-false (leb (length row) (length b)) _ _ (lt-leb (length row) (length b) h)

pub put_fits : (row b : List ℕ) → length row ≤ length b → put row b ≡ row ++ drop (length row) b
unfolding put
put_fits row b h = cond-true (leb (length row) (length b)) _ _ (le-leb (length row) (length b) h)

pub put_short : (row b : List ℕ) → length b < length row → put row b ≡ b
unfolding put
put_short row b h = cond-false (leb (length row) (length b)) _ _ (lt-leb (length row) (length b) h)

-- a row of n bytes is refused, or taken

pub refused : (row b : List ℕ) (n : ℕ)
    → n ≡ length row
    → length b < n
    → (◌≡◌ {A = Result ℕ Fault} (Err (small n)) (wrote row b)) × (b ≡ put row b)
refused row b n e h = (
  ap (λ k. Err (small k)) e ∙ sym (wrote_short row b (omega (arith, e, h))),
  sym (put_short row b (omega (arith, e, h))),
)

pub taken : (row b : List ℕ) (n : ℕ)
    → n ≡ length row
    → n ≤ length b
    → (◌≡◌ {A = Result ℕ Fault} (Ok n) (wrote row b)) × (over row b ≡ put row b)
taken row b n e h = (
  ap (λ (k : ℕ). Ok k) e ∙ sym (wrote_fits row b (omega (arith, e, h))),
  sym (put_fits row b (omega (arith, e, h))),
)

-- a text over the front

pub length_over : (row b : List ℕ) → length row ≤ length b → length (over row b) ≡ length b
length_over row b h = omega (arith, length-append row (drop (length row) b), length-drop (length row) b)

-- texts in the middle

pub length_put_at : (at : ℕ) (row b : List ℕ) → at + length row ≤ length b → length (put_at at row b) ≡ length b
length_put_at at row b h =
    omega (
      arith,
      length-append (take at b) (row ++ drop (at + length row) b),
      length-append row (drop (at + length row) b),
      length-take-le at b (omega arith),
      length-drop (at + length row) b,
    )

-- a row at the start of a buffer
pub put_at_start : (row b : List ℕ) → put_at 0 row b ≡ over row b
put_at_start row b = let same : 0 + length row ≡ length row = omega arith in ap (λ n. row ++ drop n b) same

-- nothing written
pub put_at_none : (at : ℕ) (b : List ℕ) → put_at at [] b ≡ b
put_at_none at b = let same : at + 0 ≡ at = omega arith in ap (λ n. take at b ++ drop n b) same ∙ take-append-drop at b

-- a row put into the part of a buffer from `at` on
pub put_into : (at : ℕ) (row b : List ℕ)
    → at + length row ≤ length b
    → take at b ++ put row (drop at b) ≡ put_at at row b
put_into at row b h =
    let room : length row ≤ length (drop at b) = omega (arith, length-drop at b) in
    ap (λ x. take at b ++ x)
    (put_fits row (drop at b) room ∙ ap (λ x. row ++ x) (drop-drop (length row) at b))

-- one row behind another is one text
pub put_at_put_at : (at : ℕ) (r s b : List ℕ)
    → at + length r + length s ≤ length b
    → put_at (at + length r) s (put_at at r b) ≡ put_at at (r ++ s) b
put_at_put_at at r s b h =
    let front : length (take at b ++ r) ≡ at + length r =
    omega (arith, length-append (take at b) r, length-take-le at b (omega arith)) in
    let whole : put_at at r b ≡ (take at b ++ r) ++ drop (at + length r) b =
    sym (append_assoc (take at b) r (drop (at + length r) b)) in
    let first : take (at + length r) (put_at at r b) ≡ take at b ++ r =
    ap (take (at + length r)) whole ∙ take_at (take at b ++ r) (drop (at + length r) b) (at + length r) front in
    let last : drop (at + length r + length s) (put_at at r b) ≡ drop (at + length r + length s) b =
    sym (drop-drop (length s) (at + length r) (put_at at r b))
    ∙ ap (λ x. drop (length s) (drop (at + length r) x)) whole
    ∙ ap (drop (length s)) (drop_at (take at b ++ r) (drop (at + length r) b) (at + length r) front)
    ∙ drop-drop (length s) (at + length r) b in
    let both : at + length r + length s ≡ at + length (r ++ s) = omega (arith, length-append r s) in
    ap (λ x. x ++ (s ++ drop (at + length r + length s) (put_at at r b))) first
    ∙ ap (λ x. (take at b ++ r) ++ (s ++ x)) last
    ∙ append_assoc (take at b) r (s ++ drop (at + length r + length s) b)
    ∙ ap (λ x. take at b ++ x) (sym (append_assoc r s (drop (at + length r + length s) b)))
    ∙ ap (λ n. take at b ++ ((r ++ s) ++ drop n b)) both

-- what a row writer leaves of a buffer that it was lent from `at` on
pub put_lent : (at : ℕ) (row b : List ℕ)
    → at + length row ≤ length b
    → put_mid at (length b - at) b (put row (between at (length b) b)) ≡ put_at at row b
put_lent at row b h =
    let part : between at (length b) b ≡ drop at b = between_to_end b at (length b) (omega arith) in
    let past : drop (length b - at) (drop at b) ≡ [] = drop_all (length b - at) (drop at b) (omega (arith, length-drop at b)) in
    ap (λ x. take at b ++ (put row x ++ drop (length b - at) (drop at b))) part
    ∙ ap (λ x. take at b ++ (put row (drop at b) ++ x)) past
    ∙ ap (λ x. take at b ++ x) (append-nil (put row (drop at b)))
    ∙ put_into at row b h
