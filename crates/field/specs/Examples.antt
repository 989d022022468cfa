-- Worked examples of ULEB128 numbers, and that the definition gives each.
use Rattle.std.specs.Prelude.{◌≡◌, ℕ, Bool, true, false, ◌&&◌, List, [], ◌∷◌, Some, None, Ok, Err, Option, Result, ◌==◌}
use Rattle.fault.specs.declared.Fault.{Fault}
use Rattle.field.specs.declared.Number.{Number}
use Rattle.field.specs.Uleb.{number_at}

-- bytes, and the value and length of the number that they begin with, or none where it is refused
pub record Example : Type 0 where
  pub bytes : List ℕ
  pub expected : Option Number

abbrev pub examples : List Example
examples =
    record { bytes = 0xE5 ∷ 0x8E ∷ 0x26 ∷ []; expected = Some (record { value = 624485; taken = 3 }) }
    ∷ record { bytes = 0xFF ∷ 0xFF ∷ 0xFF ∷ 0xFF ∷ 0x0F ∷ []; expected = Some (record { value = 4294967295; taken = 5 }) }
    ∷ record { bytes = 0x80 ∷ 0x80 ∷ 0x80 ∷ 0x80 ∷ 0x10 ∷ []; expected = None }
    ∷ record { bytes = 0x80 ∷ 0x80 ∷ 0x80 ∷ 0x80 ∷ 0x80 ∷ 0x00 ∷ []; expected = None }
    ∷ record { bytes = 0x80 ∷ 0x01 ∷ 0x05 ∷ []; expected = Some (record { value = 128; taken = 2 }) }
    ∷ record { bytes = 0x80 ∷ 0x00 ∷ []; expected = Some (record { value = 0; taken = 2 }) }
    ∷ record { bytes = 0xFF ∷ []; expected = None }
    ∷ record { bytes = []; expected = None }
    ∷ []

abbrev pub as_expected : Result Number Fault → Option Number → Bool
as_expected (Ok n) (Some m) = n.value == m.value && n.taken == m.taken
as_expected (Ok n) None = false
as_expected (Err f) (Some m) = false
as_expected (Err f) None = true

abbrev pub all_right : List Example → Bool
all_right [] = true
all_right (e ∷ es) = as_expected (number_at e.bytes 0) e.expected && all_right es

-- the definition gives every example
abbrev pub ExamplesHold : Type 0
ExamplesHold = all_right examples ≡ true
