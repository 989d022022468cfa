-- What a field that was read is.
use Rattle.std.proofs.Common.{◌≡◌, ℕ, ◌+◌, Bool, true, false, cond, leb, List, length, Ok, Err, arith}
use Rattle.field.specs.Fields.{within, short}

pub read_is : {A : Type 0} (b : List ℕ) (p size : ℕ) (x y : A) → Ok x ≡ within b p size y → x ≡ y
read_is {A} b p size x y e = go (leb (p + size) (length b)) e
  where
    go : (t : Bool) → Ok x ≡ cond t (Ok y) (Err (short b)) → x ≡ y
    go true e' = cc
    go false e' = let z : ◌≡◌ {A = ℕ} 0 1 = cc in absurd (omega arith)
