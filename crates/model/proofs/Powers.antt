-- The test for a power of two.
use Rattle.std.proofs.Common.{◌≡◌, ℕ, zero, suc, ◌+◌, ◌/◌, ◌%◌, ◌^◌, ◌<◌, ◌≤◌, Bool, true, false, cond, eqb, ◌⊎◌, sym, refl, ap, ◌∙◌, inl, inr, pow-suc, pow_mono, arith}
use Rattle.std.specs.Prelude.{count_ones}
use Rattle.std.specs.Int.{is_power_of_two}
use lib.Count.{ones_step, ones-ones, ones-le}
use Rattle.std.proofs.lemmas.Nat.{zero_from_ones}
use Rattle.std.proofs.lemmas.Bool.{cases_lt, eq-eqb, eqb-true}
use Rattle.model.specs.Laws.{Alignment, power_below, is_alignment}

pub power_found : (k i a : ℕ) → i < k → a ≡ 2 ^ i → power_below k a ≡ true
unfolding power_below
power_found zero i a h e = absurd (omega arith)
power_found (suc k) i a h e = go (eqb a (2 ^ k)) refl (cases_lt i k) (λ low. power_found k i a low e)
  where
    go : (b : Bool)
        → eqb a (2 ^ k) ≡ b
        → (i < k) ⊎ (k ≤ i)
        → (i < k → power_below k a ≡ true)
        → cond b true (power_below k a) ≡ true
    go true t c rest = refl
    go false t (inl low) rest = rest low
    go false t (inr high) rest =
        let at : i ≡ k = omega arith in
        let z : true ≡ false = sym (eq-eqb a (2 ^ k) (e ∙ ap (λ n. 2 ^ n) at)) ∙ t in
        cc

pub power_only : (k a : ℕ) → power_below k a ≡ true → (i : ℕ) × (i < k) × (a ≡ 2 ^ i)
unfolding power_below
power_only zero a h = cc
power_only (suc k) a h = go (eqb a (2 ^ k)) refl h (λ r. power_only k a r)
  where
    go : (b : Bool)
        → eqb a (2 ^ k) ≡ b
        → cond b true (power_below k a) ≡ true
        → (power_below k a ≡ true → (i : ℕ) × (i < k) × (a ≡ 2 ^ i))
        → (i : ℕ) × (i < suc k) × (a ≡ 2 ^ i)
    go true t c rest = (k, omega arith, eqb-true a (2 ^ k) t)
    go false t c rest = let p = rest c in (p.0, omega (arith, p.1), p.2)

pub alignment_tested : (a : ℕ) → Alignment a → is_alignment a ≡ true
alignment_tested a (k, low, e) = power_found 17 k a (omega arith) e

pub tested_alignment : (a : ℕ) → is_alignment a ≡ true → Alignment a
tested_alignment a h = let p = power_only 17 a h in (p.0, omega (arith, p.1), p.2)

-- a power of two has one bit, and nothing else has

power_bits : (i : ℕ) → count_ones (2 ^ i) ≡ 1
power_bits zero = ones-ones 1
power_bits (suc i) =
    let power = pow-suc 2 i in
    let low : 2 ^ suc i % 2 ≡ 0 = omega (arith, power) in
    let rest : 2 ^ suc i / 2 ≡ 2 ^ i = omega (arith, power) in
    ones_step (2 ^ suc i) ∙ ap (λ n. n + count_ones (2 ^ suc i / 2)) low ∙ ap (λ n. 0 + count_ones n) rest ∙ omega (arith, power_bits i)

one_bit : (k n : ℕ) → n < 2 ^ k → count_ones n ≡ 1 → (i : ℕ) × (i < k) × (n ≡ 2 ^ i)
one_bit zero n h e = absurd (omega (arith, e, ones-le 0 n h))
one_bit (suc k) n h e = go (cases_lt (n % 2) 1) (one_bit k (n / 2) (omega (arith, pow-suc 2 k)))
  where
    go : (n % 2 < 1) ⊎ (1 ≤ n % 2)
        → (count_ones (n / 2) ≡ 1 → (i : ℕ) × (i < k) × (n / 2 ≡ 2 ^ i))
        → (i : ℕ) × (i < suc k) × (n ≡ 2 ^ i)
    go (inl low) rest =
        let p = rest (omega (arith, e, ones_step n)) in
        (suc p.0, omega (arith, p.1), omega (arith, p.2, pow-suc 2 p.0))
    go (inr high) rest =
        let none : n / 2 ≡ 0 = zero_from_ones (n / 2) (omega (arith, e, ones_step n)) in
        (0, omega arith, omega (arith, none))

same : (b c : Bool) → (b ≡ true → c ≡ true) → (c ≡ true → b ≡ true) → b ≡ c
same true c to back = sym (to refl)
same false true to back = back refl
same false false to back = refl

-- up to 65,536 a power of two is an alignment
pub power_is : (a : ℕ) → a ≤ 65536 → is_power_of_two a ≡ is_alignment a
power_is a low =
    same _ _
    (λ h. let q = one_bit 17 a (omega arith) (eqb-true (count_ones a) 1 h) in power_found 17 q.0 a q.1 q.2)
    (λ h. let q = power_only 17 a h in eq-eqb (count_ones a) 1 (ap count_ones q.2 ∙ power_bits q.0))

-- a larger number is none
pub no_power : (a : ℕ) → 65536 < a → is_alignment a ≡ false
no_power a high =
    same _ _
    (λ h.
    let q = power_only 17 a h in
    absurd (omega (arith, q.2, pow_mono {i = q.0} {j = 16} (omega (arith, q.1)))))
    (λ h. cc)
