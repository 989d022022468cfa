-- A number made of the first bytes of a list is the field that stands there.
use Rattle.std.proofs.Common.{◌≡◌, ℕ, ◌<◌, List, take, get_or, arith}
use Rattle.std.specs.Int.{from_le_bytes, w16, w32, w64}
use Rattle.std.proofs.lemmas.List.{get_or-take}
use Rattle.field.specs.Fields.{half, word, long}

-- byte i of the first n
byte : (n : ℕ) (bs : List ℕ) (i : ℕ) → i < n → get_or (take n bs) i 0 ≡ get_or bs i 0
byte n bs i h = get_or-take n bs i 0 h

pub half_first : (bs : List ℕ) → from_le_bytes w16 (take 2 bs) ≡ half bs 0
unfolding half
half_first bs = omega (arith, byte 2 bs 0 (omega arith), byte 2 bs 1 (omega arith))

pub word_first : (bs : List ℕ) → from_le_bytes w32 (take 4 bs) ≡ word bs 0
unfolding half word
word_first bs =
    omega (arith, byte 4 bs 0 (omega arith), byte 4 bs 1 (omega arith), byte 4 bs 2 (omega arith), byte 4 bs 3 (omega arith))

pub long_first : (bs : List ℕ) → from_le_bytes w64 (take 8 bs) ≡ long bs 0
unfolding half word long
long_first bs =
    omega (arith, byte 8 bs 0 (omega arith), byte 8 bs 1 (omega arith), byte 8 bs 2 (omega arith), byte 8 bs 3 (omega arith), byte 8 bs 4 (omega arith), byte 8 bs 5 (omega arith), byte 8 bs 6 (omega arith), byte 8 bs 7 (omega arith))
