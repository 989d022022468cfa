-- Alike sections by the questions about them, with no word of unfoldings.
use Rattle.std.specs.Prelude.{◌≡◌, ℕ, Bool, true, false, Some, None, Option}
use Rattle.model.specs.declared.Target.{Target}
use Rattle.model.specs.declared.Target.TheVariants.{Section, Outside}
use Rattle.model.specs.declared.Relocation.{Relocation}
use Rattle.model.specs.Graph.{Graph, Present, record_of, byte_of, relocation_of}
use Rattle.unfolding.specs.Groups.{foldable}
use Rattle.unfolding.specs.Sections.{Alike}

-- one outside name, or two sections of which R holds
abbrev pub Aims : (ℕ → ℕ → Type 0) → Target → Target → Type 0
Aims R (Section s) (Section t) = R s t
Aims R (Section s) (Outside f) = ⊥
Aims R (Outside e) (Section t) = ⊥
Aims R (Outside e) (Outside f) = e ≡ f

-- two relocations that do the same
pub record Links (R : ℕ → ℕ → Type 0) (r q : Relocation) : Type 0 where
  pub offset : r.offset ≡ q.offset
  pub kind : r.kind ≡ q.kind
  pub displacement : r.displacement ≡ q.displacement
  pub target : Aims R r.target q.target

-- the same of two answers, where one is none if the other is
abbrev pub BothLink : (ℕ → ℕ → Type 0) → Option Relocation → Option Relocation → Type 0
BothLink R None None = Unit {0}
BothLink R None (Some q) = ⊥
BothLink R (Some r) None = ⊥
BothLink R (Some r) (Some q) = Links R r q

-- section s of g and section t of h have the same record and bytes, and relocations to the same names and to sections of which R holds; a
-- pinned one has the same number
pub record Matches (R : ℕ → ℕ → Type 0) (g : Graph) (s : ℕ) (h : Graph) (t : ℕ) : Type 0 where
  pub number : Present g s → foldable g s ≡ false → s ≡ t
  pub records : record_of g s ≡ record_of h t
  pub bytes : (i : ℕ) → byte_of g s i ≡ byte_of h t i
  pub relocations : (j : ℕ) → BothLink R (relocation_of g s j) (relocation_of h t j)

-- alike sections match, and what they point at is alike
abbrev pub AlikeMatches : Type 0
AlikeMatches = (g : Graph) (s : ℕ) (h : Graph) (t : ℕ) → Alike g s h t → Matches (λ x y. Alike g x h y) g s h t

-- and sections that any pairing matches throughout are alike
abbrev pub MatchingAlike : Type 0
MatchingAlike =
    (R : ℕ → ℕ → Bool) (g h : Graph) →
    ((s t : ℕ) → R s t ≡ true → Matches (λ x y. R x y ≡ true) g s h t) →
    (s t : ℕ) →
    R s t ≡ true →
    Alike g s h t
