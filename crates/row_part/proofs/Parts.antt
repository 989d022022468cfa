-- The parts of a row, one by one: what is read at a place, and what stands there if it is read.
use Rattle.std.proofs.Common.{◌≡◌, ℕ, zero, suc, ◌+◌, ◌*◌, ◌^◌, ◌<◌, ◌≤◌, Bool, true, false, cond, eqb, leb, ◌⊎◌, List, [], ◌∷◌, ◌++◌, length, get_or, take, drop, ℤ, pos, negsuc, Some, None, Ok, Err, Option, Result, sym, refl, ap, ◌∙◌, inl, inr, append_assoc, mul-zero, mul-suc, one-add, arith}
use lib.Signed.{mag}
use Rattle.std.specs.Fmt.{signed_decimal}
use Rattle.std.specs.List.{AllByRecursion}
use Rattle.std.proofs.lemmas.List.{length-append, length-drop, length-take-le, take-append-drop, take_at, drop_at, drop-drop, drop_more, get_or_past, get_or-drop}
use Rattle.std.proofs.lemmas.Bool.{cases_lt, cond-true, eqb-true, eq-eqb, leb-true, le-leb}
use Rattle.column.specs.Columns.{column, columns, read_column, column_of}
use Rattle.column.proofs.Columns.{column_reads, column_only, length_column}
use Rattle.row_part.specs.declared.Cause.TheVariants.{Column, Range, End}
use Rattle.row_part.specs.Parts.{and_then, formed, column_at, bounded, natural_at, end_at}

-- the number takes at most w columns, and it fits 64 bits
abbrev pub Fits : ℕ → ℤ → Type 0
Fits w z = (length (signed_decimal z) ≤ w) × (mag z < 2 ^ 63)

-- steps that are taken

pub and_then_from : {A B E : Type 0} (f : A → Result B E) (r : Result A E) (a : A) (s : Result B E)
    → r ≡ Ok a
    → f a ≡ s
    → and_then r f ≡ s
and_then_from f r a s h k = ap (λ x. and_then x f) h ∙ k

pub and_then_only : {A B E : Type 0} (r : Result A E) (f : A → Result B E) (b : B)
    → and_then r f ≡ Ok b
    → (a : A) × (r ≡ Ok a) × (f a ≡ Ok b)
and_then_only (Ok a) f b h = (a, refl, h)
and_then_only (Err e) f b h = cc

pub cond_only : {A E : Type 0} (b : Bool) (r : Result A E) (e : E) (a : A)
    → cond b r (Err e) ≡ Ok a
    → (b ≡ true) × (r ≡ Ok a)
cond_only true r e a h = (refl, h)
cond_only false r e a h = cc

formed_only : (o : Option ℤ) (z : ℤ) → formed o ≡ Ok z → o ≡ Some z
formed_only None z h = cc
formed_only (Some x) z h = cc

pub bounded_only : (limit : ℕ) (z : ℤ) (n : ℕ) → bounded limit z ≡ Ok n → (z ≡ pos n) × (n ≤ limit)
bounded_only limit (pos m) n h =
    let p = cond_only (leb m limit) (Ok m) Range n h in
    let same : m ≡ n = cc p.1 in
    (ap pos same, omega (arith, leb-true m limit p.0))
bounded_only limit (negsuc m) n h = cc

-- what stands where a number is read

pub record Held (w : ℕ) (t : List ℕ) (at : ℕ) (z : ℤ) : Type 0 where
  pub there : drop at t ≡ column w z ++ drop (at + w) t
  pub fits : Fits w z

column_of_only : (xs : List ℕ) (z : ℤ) → column_of xs ≡ Some z → read_column xs ≡ Some z
column_of_only xs z h = go (leb (length xs) 18) h
  where
    go : (b : Bool) → cond b (read_column xs) None ≡ Some z → read_column xs ≡ Some z
    go true e = e
    go false e = cc

pub column_held : (w : ℕ) (t : List ℕ) (at : ℕ) (z : ℤ) → w ≤ 18 → column_at w t at ≡ Ok z → Held w t at z
column_held w t at z small h =
    let p = cond_only (leb (at + w) (length t)) (formed (column_of (take w (drop at t)))) Column z h in
    let room : at + w ≤ length t = leb-true (at + w) (length t) p.0 in
    let long : length (take w (drop at t)) ≡ w =
    length-take-le w (drop at t) (omega (arith, length-drop at t)) in
    let q =
    column_only (take w (drop at t)) z (omega (arith, long)) (column_of_only (take w (drop at t)) z (formed_only (column_of (take w (drop at t))) z p.1)) in
    let same : take w (drop at t) ≡ column w z = q.0 ∙ ap (λ n. column n z) long in
    record {
      there =
          sym (take-append-drop w (drop at t))
          ∙ ap (λ x. x ++ drop w (drop at t)) same
          ∙ ap (λ x. column w z ++ x) (drop-drop w at t);
      fits = (omega (arith, q.1.0, long), q.1.1);
    }

pub natural_held : (w : ℕ) (t : List ℕ) (at limit n : ℕ)
    → w ≤ 18
    → natural_at w t at limit ≡ Ok n
    → Held w t at (pos n) × (n ≤ limit)
unfolding natural_at
natural_held w t at limit n small h =
    let p = and_then_only (column_at w t at) (bounded limit) n h in
    let q = bounded_only limit p.0 n p.2 in
    (column_held w t at (pos n) small (p.1 ∙ ap (λ (z : ℤ). Ok z) q.0), q.1)

pub end_held : (t : List ℕ) (at k : ℕ) → end_at t at ≡ Ok k → drop at t ≡ 10 ∷ drop (at + 1) t
end_held t at k h =
    let p = cond_only (eqb (get_or t at 0) 10) (Ok (at + 1)) End k h in
    let ten : get_or t at 0 ≡ 10 = eqb-true (get_or t at 0) 10 p.0 in
    go ten (cases_lt at (length t))
  where
    go : get_or t at 0 ≡ 10 → (at < length t) ⊎ (length t ≤ at) → drop at t ≡ 10 ∷ drop (at + 1) t
    go ten (inl low) = drop_more t at 0 low ∙ ap (λ (x : ℕ). x ∷ drop (at + 1) t) ten
    go ten (inr high) = absurd (omega (arith, get_or_past t at 0 high, ten))

-- what is read where a number stands

pub column_read : (w : ℕ) (t : List ℕ) (at : ℕ) (z : ℤ) (rest : List ℕ)
    → 0 < w
    → w ≤ 18
    → drop at t ≡ column w z ++ rest
    → Fits w z
    → column_at w t at ≡ Ok z
column_read w t at z rest some few e fits =
    let long = length_column w z fits.0 in
    let all = ap length e ∙ length-append (column w z) rest in
    let room : at + w ≤ length t = omega (arith, length-drop at t, all, long) in
    let same : take w (drop at t) ≡ column w z = ap (take w) e ∙ take_at (column w z) rest w long in
    cond-true (leb (at + w) (length t)) _ _ (le-leb (at + w) (length t) room)
    ∙ ap (λ x. formed (column_of x)) same
    ∙ ap formed
    (
    cond-true (leb (length (column w z)) 18) _ _ (le-leb (length (column w z)) 18 (omega (arith, long)))
    ∙ column_reads w z fits.1
    )

pub natural_read : (w : ℕ) (t : List ℕ) (at limit n : ℕ) (rest : List ℕ)
    → 0 < w
    → w ≤ 18
    → drop at t ≡ column w (pos n) ++ rest
    → Fits w (pos n)
    → n ≤ limit
    → natural_at w t at limit ≡ Ok n
unfolding natural_at
natural_read w t at limit n rest some few e fits low =
    and_then_from (bounded limit) (column_at w t at) (pos n) (Ok n) (column_read w t at (pos n) rest some few e fits)
    (cond-true (leb n limit) _ _ (le-leb n limit low))

pub first_at : (t : List ℕ) (at : ℕ) (rest : List ℕ) → drop at t ≡ rest → get_or t at 0 ≡ get_or rest 0 0
first_at t at rest e =
    let same : at ≡ at + 0 = omega arith in
    ap (λ n. get_or t n 0) same ∙ sym (get_or-drop at t 0 0) ∙ ap (λ x. get_or x 0 0) e

pub end_read : (t : List ℕ) (at : ℕ) (rest : List ℕ) → drop at t ≡ 10 ∷ rest → end_at t at ≡ Ok (at + 1)
end_read t at rest e =
    cond-true (eqb (get_or t at 0) 10) _ _ (eq-eqb (get_or t at 0) 10 (first_at t at (10 ∷ rest) e))

-- the next column, and what stands after it
pub next_column : (w : ℕ) (t : List ℕ) (at : ℕ) (z : ℤ) (rest : List ℕ)
    → drop at t ≡ column w z ++ rest
    → length (signed_decimal z) ≤ w
    → drop (at + w) t ≡ rest
next_column w t at z rest e fits =
    sym (drop-drop w at t) ∙ ap (drop w) e ∙ drop_at (column w z) rest w (length_column w z fits)

-- columns side by side, with a text behind them
abbrev pub chained : ℕ → List ℤ → List ℕ → List ℕ
chained w [] rest = rest
chained w (z ∷ zs) rest = column w z ++ chained w zs rest

pub columns_chained : (w : ℕ) (zs : List ℤ) (rest : List ℕ) → columns w zs ++ rest ≡ chained w zs rest
columns_chained w [] rest = refl
columns_chained w (z ∷ zs) rest =
    append_assoc (column w z) (columns w zs) rest ∙ ap (λ x. column w z ++ x) (columns_chained w zs rest)

chained_drop : (w k : ℕ) (zs : List ℤ) (rest : List ℕ)
    → k ≤ length zs
    → AllByRecursion (Fits w) zs
    → drop (w * k) (chained w zs rest) ≡ chained w (drop k zs) rest
chained_drop w zero zs rest h fits = ap (λ n. drop n (chained w zs rest)) (mul-zero w)
chained_drop w (suc k) [] rest h fits = absurd (omega arith)
chained_drop w (suc k) (z ∷ zs) rest h fits =
    let next : w * suc k ≡ w + w * k = omega (arith, mul-suc w k) in
    ap (λ n. drop n (column w z ++ chained w zs rest)) next
    ∙ sym (drop-drop (w * k) w (column w z ++ chained w zs rest))
    ∙ ap (drop (w * k)) (drop_at (column w z) (chained w zs rest) w (length_column w z fits.0.0))
    ∙ chained_drop w k zs rest (omega arith) fits.1

-- from column k on, after a letter
pub at_column : (w k : ℕ) (zs : List ℤ) (c : ℕ) (rest : List ℕ)
    → k ≤ length zs
    → AllByRecursion (Fits w) zs
    → drop (1 + w * k) (c ∷ chained w zs rest) ≡ chained w (drop k zs) rest
at_column w k zs c rest h fits = rw (one-add (w * k)) (chained_drop w k zs rest h fits)
