-- What a search from a number on finds.
use Rattle.std.proofs.Common.{◌≡◌, ℕ, ◌<◌, ◌≤◌, Bool, true, false, Some, None, Option, MatchOption, unwrap_or, sym, arith}
use Rattle.partition.specs.Classes.{Found, Finds}

pub finds_lowest :
    (gives : ℕ → Bool → Type 0) (low n : ℕ) (r : Option ℕ) →
    MatchOption r ((t : ℕ) → low ≤ t → t < n → gives t false)
    (λ m. (low ≤ m) × (m < n) × gives m true × ((t : ℕ) → low ≤ t → t < m → gives t false)) →
    Finds gives low n (unwrap_or r n)
finds_lowest gives low n None h =
    record { from = λ k. k; before = h; found = λ k. absurd (omega arith); bounded = omega arith }
finds_lowest gives low n (Some m) h =
    let below = h.1 in
    record { from = λ _. h.0; before = h.3; found = λ _. (h.0, h.2); bounded = omega arith }

-- where what is given is the test's answer
pub found_from :
    (p : ℕ → Bool) (gives : ℕ → Bool → Type 0) (low n m : ℕ) →
    ((t : ℕ) (b : Bool) → low ≤ t → t < n → gives t b → b ≡ p t) →
    Finds gives low n m →
    Found p low n m
found_from p gives low n m computes f =
    let top = f.bounded in
    record {
      from = f.from;
      before = λ t l k. sym (computes t false l (omega arith) (f.before t l k));
      found = λ k. sym (computes m true (f.found k).0 k (f.found k).1);
      bounded = f.bounded;
    }
