-- Laws of `all_below`, `some_below`, `least_below` and `table`.
use Rattle.std.proofs.Common.{◌≡◌, ℕ, zero, suc, ◌<◌, ◌≤◌, Bool, true, false, cond, ltb, length, get_or, Decides, sym, refl, subst, ⊎_elim, arith}
use Rattle.std.proofs.lemmas.Bool.{cases_lt, lt-ltb, le-ltb, both_ways, cond-true, cond-false}
use Rattle.std.proofs.lemmas.Bool.Decides.{Decides-below_and, Decides-below_or}
use Rattle.std.proofs.lemmas.List.FromFn.{get_or-map-range_with_len, length-map-range_with_len}
use Rattle.std.proofs.lemmas.List.{get_or_past}
use Rattle.steps.specs.Below.{all_below, some_below, least_more, least_below, table}

pub all_decides :
    (p : ℕ → Bool) (P : ℕ → Type 0) → ((k : ℕ) → Decides (p k) (P k)) → (n : ℕ) → Decides (all_below p n) ((k : ℕ) → k < n → P k)
all_decides p P each n = Decides-below_and p P (all_below p) each refl (λ _. refl) n

pub some_decides :
    (p : ℕ → Bool) (P : ℕ → Type 0) →
    ((k : ℕ) → Decides (p k) (P k)) →
    (n : ℕ) →
    Decides (some_below p n) ((k : ℕ) × (k < n) × P k)
some_decides p P each n = Decides-below_or p P (some_below p) each refl (λ _. refl) n

-- m is the least below n that passes, or n if none does
pub record Least (p : ℕ → Bool) (n m : ℕ) : Type 0 where
  pub bounded : m ≤ n
  pub before : (k : ℕ) → k < m → p k ≡ false
  pub found : m < n → p m ≡ true

least_in : (m n : ℕ) (b : Bool) → m < n → least_more m n b ≡ m
least_in m n b h = cond-true (ltb m n) m (cond b n (suc n)) (lt-ltb m n h)

least_out : (m n : ℕ) (b : Bool) → n ≤ m → least_more m n b ≡ cond b n (suc n)
least_out m n b h = cond-false (ltb m n) m (cond b n (suc n)) (le-ltb m n h)

least_step : (p : ℕ → Bool) (n m : ℕ) → Least p n m → Least p (suc n) (least_more m n (p n))
least_step p n m h = ⊎_elim inside outside (cases_lt m n)
  where
    inside : m < n → Least p (suc n) (least_more m n (p n))
    inside lt =
        subst
        (Least p (suc n))
        (sym (least_in m n (p n) lt))
        (record { bounded = omega arith; before = h.before; found = λ _. h.found lt })

    go : n ≤ m → (b : Bool) → p n ≡ b → Least p (suc n) (cond b n (suc n))
    go ge true e = record { bounded = omega arith; before = λ k l. h.before k (omega arith); found = λ _. e }
    go ge false e =
        record {
          bounded = omega arith;
          before =
              λ k l.
              ⊎_elim
              (λ lt. h.before k (omega arith))
              (λ le.
              let same : n ≡ k = omega arith in
              subst (λ (x : ℕ). p x ≡ false) same e)
              (cases_lt k n);
          found = λ l. absurd (omega arith);
        }

    outside : n ≤ m → Least p (suc n) (least_more m n (p n))
    outside ge = subst (Least p (suc n)) (sym (least_out m n (p n) ge)) (go ge (p n) refl)

pub least_is : (p : ℕ → Bool) (n : ℕ) → Least p n (least_below p n)
least_is p zero =
    record { bounded = omega arith; before = λ k l. absurd (omega arith); found = λ l. absurd (omega arith) }
least_is p (suc n) = least_step p n (least_below p n) (least_is p n)

-- the least passes, if the bound does
pub least_passes : (p : ℕ → Bool) (n : ℕ) → p n ≡ true → p (least_below p n) ≡ true
least_passes p n e =
    let h = least_is p n in
    ⊎_elim
    (λ l. h.found l)
    (λ l.
    let same : n ≡ least_below p n = omega arith in
    subst (λ (x : ℕ). p x ≡ true) same e)
    (cases_lt (least_below p n) n)

-- and it is not above anything that passes
pub least_least : (p : ℕ → Bool) (n k : ℕ) → p k ≡ true → least_below p n ≤ k
least_least p n k e =
    ⊎_elim
    (λ l. absurd (both_ways (p k) ((least_is p n).before k l) e))
    (λ l. l)
    (cases_lt k (least_below p n))

pub table_at : {A : Type 0} (f : ℕ → A) (n i : ℕ) (d : A) → i < n → get_or (table f n) i d ≡ f i
table_at f n i d h = get_or-map-range_with_len f 0 n i i d h (omega arith)

pub table_length : {A : Type 0} (f : ℕ → A) (n : ℕ) → length (table f n) ≡ n
table_length f n = length-map-range_with_len f 0 n

pub table_past : {A : Type 0} (f : ℕ → A) (n i : ℕ) (d : A) → n ≤ i → get_or (table f n) i d ≡ d
table_past f n i d h = get_or_past (table f n) i d (subst (λ (x : ℕ). x ≤ i) (sym (table_length f n)) h)
