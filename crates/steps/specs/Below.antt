-- The numbers below a bound that pass a test, by recursion on the bound.
use Rattle.std.specs.Prelude.{ℕ, zero, suc, Bool, true, false, cond, ◌&&◌, ◌||◌, List, map, nat_lt}
use Rattle.std.specs.List.{range_with_len}

-- all of them pass
abbrev pub all_below : (ℕ → Bool) → ℕ → Bool
all_below p zero = true
all_below p (suc n) = p n && all_below p n

-- one of them passes
abbrev pub some_below : (ℕ → Bool) → ℕ → Bool
some_below p zero = false
some_below p (suc n) = p n || some_below p n

-- how many pass
abbrev pub count_below : (ℕ → Bool) → ℕ → ℕ
count_below p zero = 0
count_below p (suc n) = cond (p n) (suc (count_below p n)) (count_below p n)

-- with m the least below n: the least below n + 1, where b says whether n passes
abbrev pub least_more : ℕ → ℕ → Bool → ℕ
least_more m n b = cond (nat_lt m n) m (cond b n (suc n))

-- the least that passes, and the bound itself if none does
abbrev pub least_below : (ℕ → Bool) → ℕ → ℕ
least_below p zero = 0
least_below p (suc n) = least_more (least_below p n) n (p n)

-- the list of a function's values at the numbers below the bound
abbrev pub table : {A : Type 0} → (ℕ → A) → ℕ → List A
table f n = map f (range_with_len 0 n)
