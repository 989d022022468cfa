-- What a reader of tables holds: the text that it accepted last, at first none, and its notes on it.
use Rattle.std.specs.Prelude.{ℕ, Bool, true, false, not, ◌&&◌, List, [], ◌∷◌, is_some, Some, None, Ok, Err, Option, Result, ◌==◌}
use Rattle.fault.specs.declared.Fault.{Fault}
use Rattle.fault.specs.Refusal.{ok_unless}
use Rattle.layout.specs.Reading.{fault_of}
use Rattle.table.specs.Notes.{starts_of}

-- no text at all, or an accepted one
abbrev pub accepted : List ℕ → Bool
accepted [] = true
accepted (b ∷ t) = not (is_some (fault_of (b ∷ t)))

abbrev pub same_start : Option ℕ → Option ℕ → Bool
same_start None None = true
same_start None (Some q) = false
same_start (Some p) None = false
same_start (Some p) (Some q) = p == q

abbrev pub same_starts : List (Option ℕ) → List (Option ℕ) → Bool
same_starts [] [] = true
same_starts [] (y ∷ ys) = false
same_starts (x ∷ xs) [] = false
same_starts (x ∷ xs) (y ∷ ys) = same_start x y && same_starts xs ys

-- the text is accepted, and the starts are its sections'
unfoldable pub held : List ℕ → List (Option ℕ) → Bool
held t xs = accepted t && same_starts xs (starts_of t)

-- the notes, unless the rows are refused
abbrev pub noted_after : Result (Unit {0}) Fault → List (Option ℕ) → Result (List (Option ℕ)) Fault
noted_after (Ok u) xs = Ok xs
noted_after (Err f) xs = Err f

-- the notes on a text that is accepted, or its refusal
abbrev pub examined : List ℕ → Result (List (Option ℕ)) Fault
examined t = ok_unless (fault_of t) (starts_of t)
