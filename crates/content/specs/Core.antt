-- All that a section tells but for the sections that its relocations point at.
use Rattle.std.specs.Prelude.{◌≡◌, ℕ, ◌+◌, Bool, true, false, ◌&&◌, List, [], ◌∷◌, map, Some, None, Option, ◌==◌, unsigned_abs}
use Rattle.model.specs.declared.Target.{Target}
use Rattle.model.specs.declared.Target.TheVariants.{Section, Outside}
use Rattle.model.specs.declared.Relocation.{Relocation}
use Rattle.model.specs.declared.Record.{Record}
use Rattle.model.specs.Graph.{Body}
use Rattle.graph.specs.Bytes.{relocations_in, mixed, digest}
use Rattle.unfolding.specs.Depth.{Told, outside, section, Arm, arm_map, same_integer, same_list}
use Rattle.unfolding.specs.Telling.{arm}
use Rattle.unfolding.specs.Sections.{Face, face_of, same_face}

-- flags and alignment as a record tells them, 0 of an absent section
abbrev pub told_face : Option Record → ℕ × ℕ
told_face None = (0, 0)
told_face (Some r) = (r.flags, r.alignment)

-- every section is told alike
abbrev pub unnamed : ℕ → ℕ
unnamed s = 0

-- a relocation but for the section that it points at
abbrev pub bare : Relocation → Arm ℕ
bare r = arm_map unnamed (arm r)

abbrev pub same_outside : Target → Target → Bool
same_outside (Section a) (Section b) = true
same_outside (Section a) (Outside f) = false
same_outside (Outside e) (Section b) = false
same_outside (Outside e) (Outside f) = e == f

-- two relocations are the same but for the sections that they point at
abbrev pub same_bare : Relocation → Relocation → Bool
same_bare r q =
    (r.offset == q.offset) &&
    (r.kind == q.kind && (same_integer r.displacement q.displacement && same_outside r.target q.target))

-- whatever is given for two values is what the test gives
abbrev pub Computes : {X : Type 0} → (X → X → Bool → Type 0) → (X → X → Bool) → Type 0
Computes {X} gives test = (x y : X) (b : Bool) → gives x y b → b ≡ test x y

pub record Core : Type 0 where
  pub face : Face
  pub arms : List (Arm ℕ)

abbrev pub core_of : Option Body → Core
core_of b = record { face = face_of b; arms = map bare (relocations_in b) }

-- equality of cores as a test
abbrev pub same_core : Option Body → Option Body → Bool
same_core a b = same_face (face_of a) (face_of b) && same_list same_bare (relocations_in a) (relocations_in b)

-- a digest of a core

abbrev pub name_of : Target → ℕ
name_of (Section t) = 0
name_of (Outside e) = e + 1

abbrev pub told_name : Told ℕ → ℕ
told_name (outside e) = e + 1
told_name (section t) = 0

abbrev pub mixed_arm : ℕ → Arm ℕ → ℕ
mixed_arm h a =
    mixed (mixed (mixed (mixed h a.link.offset) a.link.kind) (unsigned_abs a.link.displacement)) (told_name a.target)

abbrev pub mixed_arms : ℕ → List (Arm ℕ) → ℕ
mixed_arms h [] = h
mixed_arms h (a ∷ as') = mixed_arms (mixed_arm h a) as'

abbrev pub digest_core : Core → ℕ
digest_core c = mixed_arms (mixed (mixed (digest c.face.bytes) c.face.flags) c.face.alignment) c.arms
