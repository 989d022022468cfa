-- What is written of a text over the front of a buffer, by one writer or by several, one behind the other.
use Rattle.std.specs.Prelude.{◌≡◌, ℕ, zero, suc, ◌<◌, ◌≤◌, List, [], ◌++◌, length, Ok, Result, IfOk}
use Rattle.std.specs.Borrow.{MutBor}
use Rattle.fault.specs.declared.Fault.{Fault}
use Rattle.row_writer.specs.Writing.{over}

-- if the buffer has room for the text, it is written and its length is answered; and what is answered is never past the
-- end of the buffer
pub record Writes (text old new : List ℕ) (answer : Result ℕ Fault) : Type 0 where
  pub inside : IfOk answer (λ n. n ≤ length old)
  pub keeps : length new ≡ length old
  pub long : length text ≤ length old → answer ≡ Ok (length text)
  pub put : length text ≤ length old → new ≡ over text old

-- the same as one word, where the check is to find the proof: it would take the record apart
unfoldable pub Written : (text old new : List ℕ) → Result ℕ Fault → Type 0
Written text old new answer = Writes text old new answer

-- the first n pieces of a text
abbrev pub pieces : (ℕ → List ℕ) → ℕ → List ℕ
pieces piece zero = []
pieces piece (suc n) = pieces piece n ++ piece n

-- a call at k < n writes piece k over the part that it is lent
abbrev pub EachWrites : (ℕ → MutBor (List ℕ) → Result ℕ Fault → MutBor (List ℕ) → Type 0) → ℕ → (ℕ → List ℕ) → Type 0
EachWrites post n piece =
    (k : ℕ) (old new : MutBor (List ℕ)) (answer : Result ℕ Fault) → post k old answer new → k < n → Writes (piece k) old.now new.now answer
