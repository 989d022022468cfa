-- Numbers in columns: what is written is read again, and nothing else is read.
use Rattle.std.proofs.Common.{◌≡◌, ℕ, zero, suc, ◌+◌, ◌-◌, ◌*◌, ◌^◌, ◌<◌, ◌≤◌, Bool, true, false, cond, ◌&&◌, eqb, leb, List, [], ◌∷◌, ◌++◌, length, get_or, take, drop, replicate, ℤ, pos, negsuc, Some, None, decimal, Option, sym, refl, ap, ◌∙◌, mul-zero, mul-suc, arith, rules}
use lib.Signed.{mag}
use Rattle.std.specs.List.{AllByRecursion}
use Rattle.std.specs.Fmt.{signed_decimal}
use Rattle.std.proofs.lemmas.Fmt.{decimal_digit, decimal_nonempty, digits_decimal, digits_value-decimal, decimal-digits_value, first_decimal, length-decimal-le, length_signed_le}
use Rattle.std.proofs.ByRecursion.{All-append}
use Rattle.std.proofs.lemmas.List.{append_assoc, drop_at, drop-drop, length-append, length-replicate, take_at}
use Rattle.std.proofs.lemmas.Str.Parse.{IsNumeralModel, numerals_by_fold, digits_value_short}
use Rattle.std.proofs.lemmas.Bool.{and_from, and_parts, cond-false, cond-true, eqb-true, eqb-false, leb-true, ne_eqb}
use Rattle.column.specs.Columns.{column, columns, is_digit, gathered, natural, positive, negative, number, read_column}

-- digits

abbrev all_digits : List ℕ → Bool
all_digits [] = true
all_digits (d ∷ ds) = is_digit d && all_digits ds

abbrev after : ℕ → List ℕ → ℕ
after n [] = n
after n (d ∷ ds) = after (n * 10 + (d - 48)) ds

own : IsNumeralModel (λ ds. all_digits ds ≡ true) (after 0)
own = numerals_by_fold _ (search rules) after (search rules)

cond_some : {X : Type 0} (b : Bool) (o : Option X) (x : X) → cond b o None ≡ Some x → (b ≡ true) × (o ≡ Some x)
cond_some true o x h = (refl, h)
cond_some false o x h = cc

cond_other : {X : Type 0} (b : Bool) (o : Option X) (x : X) → cond b None o ≡ Some x → (b ≡ false) × (o ≡ Some x)
cond_other true o x h = cc
cond_other false o x h = (refl, h)

gathered_from : (s : ℕ) (ds : List ℕ) → all_digits ds ≡ true → gathered s ds ≡ Some (after s ds)
gathered_from s [] h = refl
gathered_from s (d ∷ ds) h =
    let p = and_parts (is_digit d) (all_digits ds) h in
    cond-true (is_digit d) _ _ p.0 ∙ gathered_from (s * 10 + (d - 48)) ds p.1

gathered_only : (s n : ℕ) (ds : List ℕ) → gathered s ds ≡ Some n → (all_digits ds ≡ true) × (after s ds ≡ n)
gathered_only s n [] h = (refl, cc)
gathered_only s n (d ∷ ds) h =
    let p = cond_some (is_digit d) (gathered (s * 10 + (d - 48)) ds) n h in
    let q = gathered_only (s * 10 + (d - 48)) n ds p.1 in
    (and_from (is_digit d) (all_digits ds) p.0 q.0, q.1)

natural_from : (ds : List ℕ)
    → all_digits ds ≡ true
    → 0 < length ds
    → (get_or ds 0 0 ≡ 48 → length ds ≡ 1)
    → natural ds ≡ Some (after 0 ds)
natural_from [] h some lead = absurd (omega arith)
natural_from (d ∷ []) h some lead = gathered_from 0 (d ∷ []) h
natural_from (d ∷ (e ∷ ds)) h some lead =
    cond-false (eqb d 48) _ _ (ne_eqb d 48 (λ z. omega (arith, lead z))) ∙ gathered_from 0 (d ∷ (e ∷ ds)) h

alone : (n : ℕ) → n < 2 ^ 64 → get_or (decimal n) 0 0 ≡ 48 → length (decimal n) ≡ 1
alone zero h e = ap length (decimal_digit 0 (omega arith))
alone (suc n) h e = absurd (omega (arith, first_decimal (suc n) (omega arith) h))

pub natural_decimal : (n : ℕ) → n < 2 ^ 64 → natural (decimal n) ≡ Some n
natural_decimal n h =
    natural_from (decimal n) (digits_decimal own n h) (decimal_nonempty n h) (alone n h) ∙ ap Some (digits_value-decimal own n h)

-- the digits that are read are those that the number is written with
pub natural_only : (ds : List ℕ) (n : ℕ) → length ds ≤ 18 → natural ds ≡ Some n → (decimal n ≡ ds) × (n < 10 ^ 18)
natural_only [] n short h = cc
natural_only (d ∷ []) n short h =
    let g = gathered_only 0 n (d ∷ []) h in
    let small = digits_value_short own (d ∷ []) 18 g.0 short in (
      ap decimal (sym g.1) ∙ decimal-digits_value own (d ∷ []) g.0 (omega arith) (λ z. refl) (omega arith),
      omega (arith, g.1),
    )
natural_only (d ∷ (e ∷ ds)) n short h =
    let p = cond_other (eqb d 48) (gathered 0 (d ∷ (e ∷ ds))) n h in
    let g = gathered_only 0 n (d ∷ (e ∷ ds)) p.1 in
    let small = digits_value_short own (d ∷ (e ∷ ds)) 18 g.0 short in
    let first = eqb-false d 48 p.0 in (
      ap decimal (sym g.1)
          ∙ decimal-digits_value own (d ∷ (e ∷ ds)) g.0 (omega arith) (λ z. absurd (first z)) (omega arith),
      omega (arith, g.1),
    )

-- a number that is not blank before its end

blanks_before : (k : ℕ) (xs : List ℕ) → read_column (replicate k 32 ++ xs) ≡ read_column xs
unfolding read_column
blanks_before zero xs = refl
blanks_before (suc k) xs = blanks_before k xs

digits_number : (ds : List ℕ) → all_digits ds ≡ true → read_column ds ≡ positive (natural ds)
unfolding read_column
digits_number [] h = refl
digits_number (d ∷ ds) h =
    let p = and_parts (is_digit d) (all_digits ds) h in
    let q = and_parts (leb 48 d) (leb d 57) p.0 in
    let low = leb-true 48 d q.0 in
    cond-false (eqb d 32) _ _ (ne_eqb d 32 (λ e. omega arith)) ∙ cond-false (eqb d 45) _ _ (ne_eqb d 45 (λ e. omega arith))

read_signed : (z : ℤ) → mag z < 2 ^ 63 → read_column (signed_decimal z) ≡ Some z
unfolding read_column
read_signed (pos n) h =
    digits_number (decimal n) (digits_decimal own n (omega arith)) ∙ ap positive (natural_decimal n (omega arith))
read_signed (negsuc n) h = ap negative (natural_decimal (suc n) (omega arith))

-- what is written is read again
pub column_reads : (w : ℕ) (z : ℤ) → mag z < 2 ^ 63 → read_column (column w z) ≡ Some z
column_reads w z h = blanks_before (w - length (signed_decimal z)) (signed_decimal z) ∙ read_signed z h

pub length_column : (w : ℕ) (z : ℤ) → length (signed_decimal z) ≤ w → length (column w z) ≡ w
length_column w z h =
    omega (
      arith,
      length-append (replicate (w - length (signed_decimal z)) 32) (signed_decimal z),
      length-replicate {A = ℕ} (w - length (signed_decimal z)) 32,
    )

pub length_columns : (w : ℕ) (zs : List ℤ)
    → AllByRecursion (λ z. length (signed_decimal z) ≤ w) zs
    → length (columns w zs) ≡ w * length zs
length_columns w [] h = sym (mul-zero w)
length_columns w (z ∷ zs) h =
    omega (
      arith,
      length-append (column w z) (columns w zs),
      length_column w z h.0,
      length_columns w zs h.1,
      mul-suc w (length zs),
    )

-- only what is written is read

positive_only : (o : Option ℕ) (z : ℤ) → positive o ≡ Some z → (n : ℕ) × (o ≡ Some n) × (z ≡ pos n)
positive_only None z h = cc
positive_only (Some n) z h = (n, refl, cc)

negative_only : (o : Option ℕ) (z : ℤ) → negative o ≡ Some z → (n : ℕ) × (o ≡ Some (suc n)) × (z ≡ negsuc n)
negative_only None z h = cc
negative_only (Some zero) z h = cc
negative_only (Some (suc n)) z h = (n, refl, cc)

number_by : (c : ℕ) (cs : List ℕ) (z : ℤ) (b : Bool)
    → eqb c 45 ≡ b
    → length cs < 18
    → cond b (negative (natural cs)) (positive (natural (c ∷ cs))) ≡ Some z
    → (c ∷ cs ≡ signed_decimal z) × (mag z < 2 ^ 63)
number_by c cs z true e short h =
    let p = negative_only (natural cs) z h in
    let q = natural_only cs (suc p.0) (omega arith) p.1 in
    let same : c ∷ cs ≡ 45 ∷ decimal (suc p.0) = cc (eqb-true c 45 e, q.0) in
    rw p.2 (same, omega (arith, q.1))
number_by c cs z false e short h =
    let p = positive_only (natural (c ∷ cs)) z h in
    let q = natural_only (c ∷ cs) p.0 (omega arith) p.1 in
    rw p.2 (sym q.0, omega (arith, q.1))

pub number_only : (xs : List ℕ) (z : ℤ) → length xs ≤ 18 → number xs ≡ Some z → (xs ≡ signed_decimal z) × (mag z < 2 ^ 63)
number_only [] z short h = cc
number_only (c ∷ cs) z short h = number_by c cs z (eqb c 45) refl (omega arith) h

abbrev Only : List ℕ → ℤ → Type 0
Only xs z = (xs ≡ column (length xs) z) × ((length (signed_decimal z) ≤ length xs) × (mag z < 2 ^ 63))

only_by : (c : ℕ) (cs : List ℕ) (z : ℤ) (b : Bool)
    → eqb c 32 ≡ b
    → length cs < 18
    → (read_column cs ≡ Some z → Only cs z)
    → cond b (read_column cs) (number (c ∷ cs)) ≡ Some z
    → Only (c ∷ cs) z
only_by c cs z true e short rest h =
    let p = rest h in
    let more : suc (length cs - length (signed_decimal z)) ≡ suc (length cs) - length (signed_decimal z) = omega (arith, p.1.0) in (
      ap (λ x. x ∷ cs) (eqb-true c 32 e)
          ∙ ap (λ t. 32 ∷ t) p.0
          ∙ ap (λ k. replicate k 32 ++ signed_decimal z) more,
      (omega (arith, p.1.0), p.1.1),
    )
only_by c cs z false e short rest h =
    let p = number_only (c ∷ cs) z (omega arith) h in
    let long = ap length p.0 in
    let none : 0 ≡ suc (length cs) - length (signed_decimal z) = omega (arith, long) in
    (p.0 ∙ ap (λ k. replicate k 32 ++ signed_decimal z) none, (omega (arith, long), p.1))

pub column_only : (xs : List ℕ) (z : ℤ)
    → length xs ≤ 18
    → read_column xs ≡ Some z
    → (xs ≡ column (length xs) z) × ((length (signed_decimal z) ≤ length xs) × (mag z < 2 ^ 63))
unfolding read_column
column_only [] z short h = cc
column_only (c ∷ cs) z short h =
    only_by c cs z (eqb c 32) refl (omega arith) (λ r. column_only cs z (omega arith) r) h

-- no byte of a column ends a row

all_replicate : (P : ℕ → Type 0) (k b : ℕ) → P b → AllByRecursion P (replicate k b)
all_replicate P zero b h = tt
all_replicate P (suc k) b h = (h, all_replicate P k b h)

digits_plain : (ds : List ℕ) → all_digits ds ≡ true → AllByRecursion (λ b. 10 < b) ds
digits_plain [] h = tt
digits_plain (d ∷ ds) h =
    let p = and_parts (is_digit d) (all_digits ds) h in
    let q = and_parts (leb 48 d) (leb d 57) p.0 in
    (omega (arith, leb-true 48 d q.0), digits_plain ds p.1)

signed_plain : (z : ℤ) → mag z < 2 ^ 63 → AllByRecursion (λ b. 10 < b) (signed_decimal z)
signed_plain (pos n) h = digits_plain (decimal n) (digits_decimal own n (omega arith))
signed_plain (negsuc n) h =
    (omega arith, digits_plain (decimal (suc n)) (digits_decimal own (suc n) (omega arith)))

pub column_plain : (w : ℕ) (z : ℤ) → mag z < 2 ^ 63 → AllByRecursion (λ b. 10 < b) (column w z)
column_plain w z h =
    All-append (λ b. 10 < b) (replicate (w - length (signed_decimal z)) 32) (signed_decimal z)
    (all_replicate (λ b. 10 < b) (w - length (signed_decimal z)) 32 (omega arith))
    (signed_plain z h)

pub columns_plain : (w : ℕ) (zs : List ℤ) → AllByRecursion (λ z. mag z < 2 ^ 63) zs → AllByRecursion (λ b. 10 < b) (columns w zs)
columns_plain w [] h = tt
columns_plain w (z ∷ zs) h =
    All-append (λ b. 10 < b) (column w z) (columns w zs) (column_plain w z h.0) (columns_plain w zs h.1)

-- the columns stand side by side
pub columns_at : (w k : ℕ) (zs : List ℤ) (rest : List ℕ)
    → k < length zs
    → AllByRecursion (λ z. length (signed_decimal z) ≤ w) zs
    → take w (drop (w * k) (columns w zs ++ rest)) ≡ column w (get_or zs k (pos 0))
columns_at w k [] rest h fit = absurd (omega arith)
columns_at w zero (z ∷ zs) rest h fit =
    rw (mul-zero w, append_assoc (column w z) (columns w zs) rest)
    (take_at (column w z) (columns w zs ++ rest) w (length_column w z fit.0))
columns_at w (suc k) (z ∷ zs) rest h fit =
    let next : w * suc k ≡ w + w * k = omega (arith, mul-suc w k) in
    rw (next, ← (drop-drop (w * k) w ((column w z ++ columns w zs) ++ rest)), append_assoc (column w z) (columns w zs) rest, drop_at (column w z) (columns w zs ++ rest) w (length_column w z fit.0))
    (columns_at w k zs rest (omega arith) fit.1)

-- how many columns the numbers of a table take

pub signed_of_natural : (n : ℕ) → n < 2 ^ 32 → length (signed_decimal (pos n)) ≤ 12
signed_of_natural n h = omega (arith, length-decimal-le 10 n (omega arith) (omega arith) (omega arith))

pub signed_of_byte : (n : ℕ) → n < 2 ^ 8 → length (signed_decimal (pos n)) ≤ 3
signed_of_byte n h = length-decimal-le 3 n (omega arith) (omega arith) (omega arith)

pub signed_of_displacement : (z : ℤ) → mag z < 2 ^ 32 → length (signed_decimal z) ≤ 11
signed_of_displacement z h = length_signed_le 10 z (omega arith) (omega arith)
