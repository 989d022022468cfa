-- How many digits a number has.
use Rattle.std.proofs.Common.{◌≡◌, ℕ, zero, suc, ◌+◌, ◌*◌, ◌/◌, ◌%◌, ◌^◌, ◌<◌, ◌≤◌, Bool, true, false, length, Some, None, Option, IfSome, IfNone, decimal, unwrap_or, ap, ◌∙◌, pow-suc, arith}
use Rattle.std.specs.Int.{from_bool}
use Rattle.std.proofs.Math.Nat.{one-le-pow}
use Rattle.std.proofs.lemmas.Fmt.{decimal_digit, decimal_step}
use Rattle.std.proofs.lemmas.List.{length_push}
use Rattle.column.specs.Columns.{signed}

pub length_step : (n : ℕ) → 10 ≤ n → n < 2 ^ 64 → length (decimal n) ≡ length (decimal (n / 10)) + 1
length_step n h small = ap length (decimal_step n h small) ∙ length_push (decimal (n / 10)) (48 + n % 10)

-- a number from a power of ten on, and below the next
length_by_power : (k n : ℕ) → 10 ^ k ≤ n → n < 10 * 10 ^ k → n < 2 ^ 64 → k + 1 ≡ length (decimal n)
length_by_power zero n low high small = omega (arith, ap length (decimal_digit n (omega arith)))
length_by_power (suc k) n low high small =
    let power = pow-suc 10 k in
    let some = one-le-pow k 10 (omega arith) in
    omega (
      arith,
      length_step n (omega (arith, power, some)) small,
      length_by_power k (n / 10) (omega (arith, power)) (omega (arith, power)) (omega arith),
    )

-- by the logarithm, which 0 does not have
pub length_by_logarithm : (o : Option ℕ) (n : ℕ)
    → IfNone o (n ≡ 0)
    → IfSome o (λ k. 10 ^ k ≤ n)
    → IfSome o (λ k. n < 10 * 10 ^ k)
    → n < 2 ^ 64
    → unwrap_or o 0 + 1 ≡ length (decimal n)
length_by_logarithm None n none low high small = omega (arith, ap length (decimal_digit n (omega arith)))
length_by_logarithm (Some k) n none low high small = length_by_power k n low high small

-- with a minus or none
pub length_minus : (minus : Bool) (size : ℕ) → length (signed minus size) ≡ length (decimal size) + from_bool minus
length_minus true size = omega arith
length_minus false size = omega arith
