-- The walk along the relocations, while it goes on.
use Rattle.std.specs.Prelude.{◌≡◌, ℕ, ◌+◌, Bool, true, false, List, [], length, Some, None, Option, replicate, ◌⊎◌, Contains}
use Rattle.model.specs.declared.Relocation.{Relocation}
use Rattle.model.specs.Graph.{Graph, relocation_of, section_named}
use Rattle.steps.specs.Below.{count_below}
use Rattle.unfolding.specs.Reach.{marked}

-- the section that a relocation points at
abbrev pub aim_of : Option Relocation → Option ℕ
aim_of None = None
aim_of (Some r) = section_named r.target

-- the section that relocation j of section s points at
abbrev pub aims : Graph → ℕ → ℕ → Option ℕ
aims g s j = aim_of (relocation_of g s j)

-- how many sections are marked
abbrev pub mark_count : List Bool → ℕ
mark_count marks = count_below (marked marks) 1024

-- nothing is marked and nothing is pending
pub record IsFresh (marks : List Bool) (pending : List ℕ) : Type 0 where
  pub unmarked : marks ≡ replicate 1024 false
  pub empty : pending ≡ []

-- more is marked: what was marked or pending still is, and whatever is newly marked is newly pending
pub record Grown (marks : List Bool) (pending : List ℕ) (marks' : List Bool) (pending' : List ℕ) : Type 0 where
  pub sized : length marks' ≡ length marks
  pub kept : (s : ℕ) → marked marks s ≡ true → marked marks' s ≡ true
  pub waits : (s : ℕ) → Contains pending s → Contains pending' s
  pub fresh : (s : ℕ) → marked marks' s ≡ true → marked marks s ≡ true ⊎ Contains pending' s
  pub level : length pending' + mark_count marks ≡ length pending + mark_count marks'

-- the sections that f names are marked
abbrev pub Taken : (ℕ → Option ℕ) → List Bool → Type 0
Taken f marks = (j s : ℕ) → f j ≡ Some s → marked marks s ≡ true
