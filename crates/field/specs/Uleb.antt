-- ULEB128 numbers: base 128, the lowest digit first, where each byte but the last has 128 added.
use Rattle.std.specs.Prelude.{ℕ, suc, ◌+◌, ◌-◌, ◌*◌, ◌%◌, ◌^◌, min, cond, ◌&&◌, List, [], ◌∷◌, Some, None, Ok, Err, Option, Result, nat_le, nat_lt}
use Rattle.fault.specs.declared.Fault.{Fault}
use Rattle.fault.specs.declared.Kind.TheVariants.{Misshapen}
use Rattle.fault.specs.declared.Layer.TheVariants.{Field}
use Rattle.field.specs.declared.Number.{Number}
use Rattle.std.specs.declared.ops.ControlFlow.{ControlFlow}
use Rattle.std.specs.declared.ops.ControlFlow.TheVariants.{Continue, Break}

-- a digit in front of the number that the later bytes tell
abbrev pub behind : ℕ → Option Number → Option Number
behind x None = None
behind x (Some n) = Some (record { value = (x - 128) + 128 * n.value; taken = suc n.taken })

-- the number that the bytes begin with, however large; none where they end before it does
abbrev pub decoded : List ℕ → Option Number
decoded [] = None
decoded (x ∷ xs) =
    cond (nat_lt x 128) (Some (record { value = x; taken = 1 })) (behind x (decoded xs))

-- the refusal of a number, at its first byte
abbrev pub misshapen : ℕ → Fault
misshapen p = record { kind = Misshapen; place = p; layer = Field }

-- a number is read where it takes at most 5 bytes and is below 2^32
abbrev pub limited : Option Number → ℕ → Result Number Fault
limited None p = Err (misshapen p)
limited (Some n) p = cond (nat_le n.taken 5 && nat_lt n.value (2 ^ 32)) (Ok n) (Err (misshapen p))

-- the number that the bytes begin with, where the first of them has the place p
abbrev pub number_at : List ℕ → ℕ → Result Number Fault
number_at xs p = limited (decoded xs) p

-- a number that is read byte by byte: what one byte more makes of it, a number that goes on or one that it ends
abbrev pub Gathered : Type 0
Gathered = ControlFlow Number Number

-- the digit d is put behind the k that were read
abbrev pub with_digit : ℕ → ℕ → ℕ → Number
with_digit k v d = record { value = (v + d * 128 ^ k) % 2 ^ 32; taken = suc k }

abbrev pub gathered_from : ℕ → ℕ → ℕ → ℕ → Result Gathered Fault
gathered_from k v x p =
    cond
    (nat_le 4 k && nat_le 16 x)
    (Err (misshapen p))
    (cond (nat_lt x 128) (Ok (Break (with_digit k v x))) (Ok (Continue (with_digit k v (x - 128)))))

-- the fifth byte ends the number and is below 16
abbrev pub gathered : Number → ℕ → ℕ → Result Gathered Fault
gathered n x p = gathered_from (min n.taken 4) n.value x p

-- before the first byte
abbrev pub none_yet : Number
none_yet = record { value = 0; taken = 0 }
