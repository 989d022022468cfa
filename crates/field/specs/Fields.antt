-- Little-endian fields at a place of a list of bytes.
use Rattle.std.specs.Prelude.{ℕ, ◌+◌, ◌*◌, cond, List, length, ℤ, Ok, Err, Result, nat_le, slice_index}
use Rattle.std.specs.Int.{cast_signed}
use Rattle.std.specs.Int.{w64}
use Rattle.fault.specs.declared.Fault.{Fault}
use Rattle.fault.specs.declared.Kind.TheVariants.{Short}
use Rattle.fault.specs.declared.Layer.TheVariants.{Field}

-- 16 bits; what lies past the end reads as 0, here and below
unfoldable pub half : List ℕ → ℕ → ℕ
half b p = slice_index b p + 256 * slice_index b (p + 1)

-- 32 bits
unfoldable pub word : List ℕ → ℕ → ℕ
word b p = half b p + 65536 * half b (p + 2)

-- 64 bits
unfoldable pub long : List ℕ → ℕ → ℕ
long b p = word b p + 4294967296 * word b (p + 4)

-- 64 bits with a sign, in two's complement
abbrev pub signed : List ℕ → ℕ → ℤ
signed b p = cast_signed w64 (long b p)

-- the refusal of a field that runs past the end: its place is the length
abbrev pub short : List ℕ → Fault
short b = record { kind = Short; place = length b; layer = Field }

-- a field of some bytes at a place, or the refusal
abbrev pub within : {A : Type 0} → List ℕ → ℕ → ℕ → A → Result A Fault
within b p size x = cond (nat_le (p + size) (length b)) (Ok x) (Err (short b))
