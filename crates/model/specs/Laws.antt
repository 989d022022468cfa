-- The laws that every section graph keeps.
use Rattle.std.specs.Prelude.{◌≡◌, ℕ, zero, suc, ◌^◌, ◌<◌, ◌≤◌, Bool, true, false, cond, length, ℤ, pos, negsuc, ◌≤ℤ◌, Some, ◌==◌}
use Rattle.std.specs.List.{AllByRecursion}
use Rattle.model.specs.declared.Target.{Target}
use Rattle.model.specs.declared.Target.TheVariants.{Section, Outside}
use Rattle.model.specs.declared.Relocation.{Relocation}
use Rattle.model.specs.Graph.{Body, Graph, Present, section_of}

-- a power of two from 1 to 65,536
abbrev pub Alignment : ℕ → Type 0
Alignment a = (k : ℕ) × (k ≤ 16) × (a ≡ 2 ^ k)

-- a power of two, below 2 ^ k
unfoldable pub power_below : ℕ → ℕ → Bool
power_below zero a = false
power_below (suc k) a = cond (a == 2 ^ k) true (power_below k a)

-- the same law as a test
abbrev pub is_alignment : ℕ → Bool
is_alignment a = power_below 17 a

-- the lowest displacement is -2^31
abbrev pub lowest : ℤ
lowest = negsuc 2147483647

-- the highest is 2^31 - 1 at an outside name, and 65,535 more at a section
abbrev pub highest : Target → ℤ
highest (Section t) = pos 2147549182
highest (Outside e) = pos 2147483647

-- an outside name fits 16 bits; of the section that is named, `Aim` holds
abbrev pub Aimed : (ℕ → Type 0) → Target → Type 0
Aimed Aim (Section t) = Aim t
Aimed Aim (Outside e) = e < 2 ^ 16

pub record LawfulRelocation (Aim : ℕ → Type 0) (size : ℕ) (r : Relocation) : Type 0 where
  pub offset : r.offset < size
  pub kind : r.kind < 2 ^ 32
  pub aimed : Aimed Aim r.target
  pub low : lowest ≤ℤ r.displacement
  pub high : r.displacement ≤ℤ highest r.target

pub record LawfulBody (Aim : ℕ → Type 0) (b : Body) : Type 0 where
  pub flags : b.flags < 2 ^ 32
  pub alignment : Alignment b.alignment
  pub size : length b.bytes < 2 ^ 16
  pub bytes : AllByRecursion (λ x. x < 2 ^ 8) b.bytes
  pub few : length b.relocations < 2 ^ 16
  pub relocations : AllByRecursion (LawfulRelocation Aim (length b.bytes)) b.relocations

-- the laws, with `Aim` for what is asked of a section that a relocation or a root names
pub record ValidWhere (Aim : ℕ → Type 0) (g : Graph) : Type 0 where
  pub few : length g.sections ≤ 1024
  pub few_roots : length g.roots ≤ 4096
  pub bodies : (s : ℕ) (b : Body) → section_of g s ≡ Some b → LawfulBody Aim b
  pub rooted : AllByRecursion Aim g.roots

-- the laws: whatever a relocation or a root names is present
abbrev pub Valid : Graph → Type 0
Valid g = ValidWhere (Present g) g
