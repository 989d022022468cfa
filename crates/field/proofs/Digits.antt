-- A digit of a ULEB128 number, shifted to its place.
use Rattle.std.proofs.Common.{◌≡◌, ℕ, zero, suc, ◌*◌, ◌%◌, ◌^◌, ◌<◌, ◌≤◌, arith}

pub shifted : (k d : ℕ) → k ≤ 4 → d < 128 → (k ≡ 4 → d < 16) → d * 2 ^ (7 * k) % 4294967296 ≡ d * 128 ^ k
shifted zero d few small last = omega arith
shifted (suc zero) d few small last = omega arith
shifted (suc (suc zero)) d few small last = omega arith
shifted (suc (suc (suc zero))) d few small last = omega arith
shifted (suc (suc (suc (suc zero)))) d few small last = omega arith
shifted (suc (suc (suc (suc (suc k))))) d few small last = absurd (omega arith)
