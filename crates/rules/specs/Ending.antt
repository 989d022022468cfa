-- How a reading ends.
use Rattle.std.specs.Prelude.{◌≡◌, ℕ, List, Some, None, Ok, Err, Result}
use Rattle.fault.specs.declared.Fault.{Fault}
use Rattle.checklist.specs.Checks.{Check, first_fault}
use Rattle.rules.specs.declared.Notes.{Notes}
use Rattle.rules.specs.Notes.{Noted}

-- a reading ends with the first fault of some checks, or with the notes
abbrev pub Ends : List ℕ → List Check → Result Notes Fault → Type 0
Ends b cs (Ok x) = (first_fault cs ≡ None) × Noted b x
Ends b cs (Err f) = first_fault cs ≡ Some f
