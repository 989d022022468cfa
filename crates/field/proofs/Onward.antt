-- A number that is read byte by byte is the number that the bytes begin with.
use Rattle.std.proofs.Common.{◌≡◌, ℕ, zero, suc, ◌+◌, ◌-◌, ◌*◌, ◌%◌, ◌^◌, ◌<◌, ◌≤◌, min, Bool, true, false, cond, ltb, leb, ◌⊎◌, List, [], ◌∷◌, length, get_or, drop, Some, None, Ok, Err, Option, Result, sym, refl, ap, ◌∙◌, inl, inr, mul-add, arith}
use Rattle.std.proofs.lemmas.Bool.{cases_lt, lt-ltb, le-ltb, le-leb, lt-leb, and_left}
use Rattle.std.proofs.lemmas.Nat.{mul-le}
use Rattle.std.proofs.lemmas.List.{drop_more}
use Rattle.fault.specs.declared.Fault.{Fault}
use Rattle.field.specs.declared.Number.{Number}
use Rattle.std.specs.declared.ops.ControlFlow.TheVariants.{Continue, Break}
use Rattle.field.specs.Uleb.{behind, decoded, misshapen, limited, number_at, with_digit, Gathered, gathered_from, gathered}

-- k digits with the value v in front of the number that the later bytes tell
abbrev pub prefixed : ℕ → ℕ → Option Number → Option Number
prefixed k v None = None
prefixed k v (Some m) = Some (record { value = v + 128 ^ k * m.value; taken = k + m.taken })

-- what the number is, by the part that was read and the bytes that are left
abbrev pub pending : ℕ → ℕ → ℕ → List ℕ → Result Number Fault
pending k v p xs = limited (prefixed k v (decoded xs)) p

-- what one byte more tells of the number
abbrev pub Steps : ℕ → ℕ → ℕ → ℕ → List ℕ → Result Gathered Fault → Type 0
Steps k v x p xs (Err f) = pending k v p (x ∷ xs) ≡ Err f
Steps k v x p xs (Ok (Break m)) = (pending k v p (x ∷ xs) ≡ Ok m) × (m.taken ≡ suc k)
Steps k v x p xs (Ok (Continue m)) =
    (m.taken ≡ suc k) × (suc k ≤ 4) × (m.value < 128 ^ suc k) × (pending k v p (x ∷ xs) ≡ pending (suc k) m.value p xs)

fits : (k v p : ℕ) → k ≤ 5 → v < 2 ^ 32 → limited (Some (record { value = v; taken = k })) p ≡ Ok (record { value = v; taken = k })
fits k v p h l = rw (le-leb k 5 h, lt-ltb v (2 ^ 32) l)

-- a digit that is not the last, in front of what follows
regroup : (k w v x p : ℕ) (o : Option Number) → 128 ^ k ≡ w → 128 ^ suc k ≡ 128 * w
    → limited (prefixed k v (behind x o)) p ≡ limited (prefixed (suc k) (v + (x - 128) * w) o) p
regroup k w v x p None e f = refl
regroup k w v x p (Some m) e f =
    let a : v + 128 ^ k * ((x - 128) + 128 * m.value) ≡ (v + (x - 128) * w) + 128 ^ suc k * m.value
    = rw (e, f, mul-add) (omega arith)
    in let b : k + suc m.taken ≡ suc k + m.taken = omega arith
    in rw (a, b)

-- a digit that is put behind k others, which weigh w
digit_is : (k w v d : ℕ) → 128 ^ k ≡ w → v + d * w < 2 ^ 32 → with_digit k v d ≡ record { value = v + d * w; taken = suc k }
digit_is k w v d e l = let whole : (v + d * 128 ^ k) % 2 ^ 32 ≡ v + d * w = rw e (omega arith) in rw whole

-- the last digit
last_is : (k w v x p : ℕ) → 128 ^ k ≡ w → k ≤ 4 → v + x * w < 2 ^ 32
    → limited (prefixed k v (Some (record { value = x; taken = 1 }))) p ≡ Ok (record { value = v + x * w; taken = suc k })
last_is k w v x p e h l =
    let a : v + 128 ^ k * x ≡ v + x * w = rw e (omega arith)
    in let b : k + 1 ≡ suc k = omega arith
    in rw (a, b) (fits (suc k) (v + x * w) p (omega arith) l)

-- the first four bytes
low : (k w v x p : ℕ) (xs : List ℕ) → 128 ^ k ≡ w → 128 ^ suc k ≡ 128 * w → k < 4 → w ≤ 2097152 → v < w → x < 256
    → Steps k v x p xs (gathered_from k v x p)
low k w v x p xs e f h l d b = rw (and_left (leb 4 k) (leb 16 x) (lt-leb 4 k h)) (by_digit (cases_lt x 128))
  where
    by_digit : (x < 128) ⊎ (128 ≤ x) → Steps k v x p xs (cond (ltb x 128) (Ok (Break (with_digit k v x))) (Ok (Continue (with_digit k v (x - 128)))))
    by_digit (inl lt) =
        let small : x * w ≤ 127 * 2097152 = mul-le x w 127 2097152 (omega arith) l
        in rw (lt-ltb x 128 lt, digit_is k w v x e (omega arith)) (rw (lt-ltb x 128 lt) (last_is k w v x p e (omega arith) (omega arith)), refl)
    by_digit (inr ge) =
        let small : (x - 128) * w ≤ 127 * w = mul-le (x - 128) w 127 w (omega arith) (omega arith)
        in let whole : (v + (x - 128) * 128 ^ k) % 2 ^ 32 ≡ v + (x - 128) * w = rw e (omega arith)
        in rw (le-ltb x 128 ge)
        (refl, omega arith, rw (whole, f) (omega arith), rw (le-ltb x 128 ge, whole) (regroup k w v x p (decoded xs) e f))

-- a number takes a byte at least
pub some_taken : (xs : List ℕ) (n : Number) → decoded xs ≡ Some n → 1 ≤ n.taken
some_taken [] n e = let z : ◌≡◌ {A = ℕ} 0 1 = cc in absurd (omega arith)
some_taken (x ∷ xs) n e = go (ltb x 128) refl (decoded xs) e
  where
    go : (t : Bool) → ltb x 128 ≡ t → (o : Option Number) → cond t (Some (record { value = x; taken = 1 })) (behind x o) ≡ Some n → 1 ≤ n.taken
    go true h o e' = let r : record { value = x; taken = 1 } ≡ n = cc in omega (arith, ap (λ (m : Number). m.taken) r)
    go false h None e' = let z : ◌≡◌ {A = ℕ} 0 1 = cc in absurd (omega arith)
    go false h (Some m) e' =
        let r : record { value = (x - 128) + 128 * m.value; taken = suc m.taken } ≡ n = cc
        in omega (arith, ap (λ (m : Number). m.taken) r)

-- a number of more than five bytes, or of five that are too large, is refused
long_refused : (v x p : ℕ) (xs : List ℕ) (o : Option Number) → decoded xs ≡ o → limited (prefixed 4 v (behind x o)) p ≡ Err (misshapen p)
long_refused v x p xs None e = refl
long_refused v x p xs (Some m) e =
    let one = some_taken xs m e
    in let out : leb (4 + suc m.taken) 5 ≡ false = lt-leb (4 + suc m.taken) 5 (omega arith)
    in rw out

-- the fifth byte
high : (v x p : ℕ) (xs : List ℕ) → v < 268435456 → Steps 4 v x p xs (gathered_from 4 v x p)
high v x p xs d = by_size (cases_lt x 16)
  where
    by_digit : 16 ≤ x → (x < 128) ⊎ (128 ≤ x) → pending 4 v p (x ∷ xs) ≡ Err (misshapen p)
    by_digit g (inl lt) =
        let out : ltb (v + 268435456 * x) (2 ^ 32) ≡ false = le-ltb (v + 268435456 * x) (2 ^ 32) (omega arith)
        in rw (lt-ltb x 128 lt, out)
    by_digit g (inr ge) = rw (le-ltb x 128 ge) (long_refused v x p xs (decoded xs) refl)

    by_size : (x < 16) ⊎ (16 ≤ x) → Steps 4 v x p xs (gathered_from 4 v x p)
    by_size (inl lt) =
        let in128 : x < 128 = omega arith
        in rw (lt-leb 16 x lt, lt-ltb x 128 in128, digit_is 4 268435456 v x refl (omega arith))
        (rw (lt-ltb x 128 in128) (last_is 4 268435456 v x p refl (omega arith) (omega arith)), refl)
    by_size (inr ge) = rw (le-leb 16 x ge) (by_digit ge (cases_lt x 128))

pub step : (k v x p : ℕ) (xs : List ℕ) → k ≤ 4 → v < 128 ^ k → x < 256 → Steps k v x p xs (gathered_from k v x p)
step zero v x p xs h d b = low 0 1 v x p xs refl refl (omega arith) (omega arith) d b
step (suc zero) v x p xs h d b = low 1 128 v x p xs refl refl (omega arith) (omega arith) d b
step (suc (suc zero)) v x p xs h d b = low 2 16384 v x p xs refl refl (omega arith) (omega arith) d b
step (suc (suc (suc zero))) v x p xs h d b = low 3 2097152 v x p xs refl refl (omega arith) (omega arith) d b
step (suc (suc (suc (suc zero)))) v x p xs h d b = high v x p xs d
step (suc (suc (suc (suc (suc k))))) v x p xs h d b = absurd (omega arith)

-- the same of a byte of a list, with what one more byte made of the number as it was told
pub stepped : (n : Number) (x p : ℕ) (xs : List ℕ) (r : Result Gathered Fault) → n.taken ≤ 4 → n.value < 128 ^ n.taken → x < 256
    → r ≡ gathered n x p → Steps n.taken n.value x p xs r
stepped n x p xs r h l b e =
    let m : min n.taken 4 ≡ n.taken = omega arith
    in let f : r ≡ gathered_from n.taken n.value x p = rw m at e
    in rw f (step n.taken n.value x p xs h l b)

-- one byte more of a list, from the number so far to what it makes of the number that the list begins with
abbrev pub Turned : ℕ → List ℕ → ℕ → Result Gathered Fault → Type 0
Turned p bytes i (Err f) = Err f ≡ number_at bytes p
Turned p bytes i (Ok (Break m)) = Ok m ≡ number_at bytes p
Turned p bytes i (Ok (Continue m)) =
    (m.taken ≤ 4) × (m.value < 128 ^ m.taken) × (pending m.taken m.value p (drop (i + 1) bytes) ≡ number_at bytes p)

pub turn : (bytes : List ℕ) (i p : ℕ) (n : Number) (r : Result Gathered Fault) → i < length bytes → get_or bytes i 0 < 256
    → (n.taken ≤ 4) × (n.value < 128 ^ n.taken) × (pending n.taken n.value p (drop i bytes) ≡ number_at bytes p)
    → r ≡ gathered n (get_or bytes i 0) p → Turned p bytes i r
turn bytes i p n r lt b inv e =
    go r (rw (drop_more bytes i 0 lt) at inv.2) (stepped n (get_or bytes i 0) p (drop (i + 1) bytes) r inv.0 inv.1 b e)
  where
    go : (r : Result Gathered Fault) → pending n.taken n.value p (get_or bytes i 0 ∷ drop (i + 1) bytes) ≡ number_at bytes p
        → Steps n.taken n.value (get_or bytes i 0) p (drop (i + 1) bytes) r → Turned p bytes i r
    go (Err f) q s = sym s ∙ q
    go (Ok (Break m)) q s = sym s.0 ∙ q
    go (Ok (Continue m)) q s = rw s.0 (s.1, s.2, sym s.3 ∙ q)
