-- Numbers in columns, as the rows of a table have them.
use Rattle.std.specs.Prelude.{◌≡◌, ℕ, zero, suc, ◌+◌, ◌-◌, ◌*◌, ◌^◌, ◌<◌, ◌≤◌, Bool, cond, ◌&&◌, List, [], ◌∷◌, ◌++◌, length, replicate, ℤ, pos, negsuc, Some, None, Option, ◌==◌, nat_le, decimal}
use Rattle.std.specs.Int.Signed.{mag}
use Rattle.std.specs.Fmt.{signed_decimal}

-- a text right-justified in w columns, with blanks before it
abbrev pub justified : ℕ → List ℕ → List ℕ
justified w t = replicate (w - length t) 32 ++ t

-- the text of a size, with a minus directly before its digits or none
abbrev pub signed : Bool → ℕ → List ℕ
signed minus size = cond minus (45 ∷ decimal size) (decimal size)

-- a number right-justified in w columns, with a minus directly before its digits if it is negative
abbrev pub column : ℕ → ℤ → List ℕ
column w z = justified w (signed_decimal z)

abbrev pub columns : ℕ → List ℤ → List ℕ
columns w [] = []
columns w (z ∷ zs) = column w z ++ columns w zs

abbrev pub is_digit : ℕ → Bool
is_digit b = nat_le 48 b && nat_le b 57

-- the number that begins with `sum` and goes on with the digits, if they all are digits
abbrev pub gathered : ℕ → List ℕ → Option ℕ
gathered sum [] = Some sum
gathered sum (d ∷ ds) = cond (is_digit d) (gathered (sum * 10 + (d - 48)) ds) None

-- digits with no leading zero: `0` stands alone
abbrev pub natural : List ℕ → Option ℕ
natural [] = None
natural (d ∷ []) = gathered 0 (d ∷ [])
natural (d ∷ (e ∷ ds)) = cond (d == 48) None (gathered 0 (d ∷ (e ∷ ds)))

abbrev pub positive : Option ℕ → Option ℤ
positive None = None
positive (Some n) = Some (pos n)

-- there is no minus before 0
abbrev pub negative : Option ℕ → Option ℤ
negative None = None
negative (Some zero) = None
negative (Some (suc n)) = Some (negsuc n)

-- a minus if it is negative, then its digits up to the end
abbrev pub number : List ℕ → Option ℤ
number [] = None
number (c ∷ cs) = cond (c == 45) (negative (natural cs)) (positive (natural (c ∷ cs)))

-- the number that a column holds: blanks, and then the number up to the column's end
unfoldable pub read_column : List ℕ → Option ℤ
read_column [] = None
read_column (c ∷ cs) = cond (c == 32) (read_column cs) (number (c ∷ cs))

-- a column is at most 18 wide, so that its number fits 64 bits
abbrev pub column_of : List ℕ → Option ℤ
column_of t = cond (nat_le (length t) 18) (read_column t) None

-- a number of 64 bits that is written in a column, however wide, is read again
abbrev pub ReadBack : Type 0
ReadBack = (w : ℕ) (z : ℤ) → mag z < 2 ^ 63 → read_column (column w z) ≡ Some z

-- a column that is read is what its number is written as, and the number fits it and 64 bits
abbrev pub OnlyWritten : Type 0
OnlyWritten =
    (t : List ℕ) (z : ℤ)
    → length t ≤ 18
    → read_column t ≡ Some z
    → (t ≡ column (length t) z) × ((length (signed_decimal z) ≤ length t) × (mag z < 2 ^ 63))
