-- Rules as lists of checks in order: the first that does not hold gives the refusal.
use Rattle.std.specs.Prelude.{ℕ, zero, suc, Bool, true, false, cond, ◌&&◌, List, [], ◌∷◌, ◌++◌, Some, None, Option}
use Rattle.fault.specs.declared.Fault.{Fault}
-- the answer of a reader: what it found, or the refusal
pub use Rattle.fault.specs.Refusal.{ok_unless as answer}

-- a condition, and the refusal where it does not hold
pub record Check : Type 0 where
  pub holds : Bool
  pub fault : Fault

-- the refusal of the first check that does not hold
abbrev pub first_fault : List Check → Option Fault
first_fault [] = None
first_fault (c ∷ cs) = cond c.holds (first_fault cs) (Some c.fault)

abbrev pub all_hold : List Check → Bool
all_hold [] = true
all_hold (c ∷ cs) = c.holds && all_hold cs

-- the checks of each number below n, in order
abbrev pub each : (ℕ → List Check) → ℕ → List Check
each f zero = []
each f (suc n) = each f n ++ f n

-- checks that are made where a condition holds
abbrev pub where_holds : Bool → List Check → List Check
where_holds true cs = cs
where_holds false cs = []
