-- Unfoldings at a depth, over any mark and any face.
use Rattle.std.specs.Prelude.{ℕ, zero, suc, Bool, true, false, ◌&&◌, List, [], ◌∷◌, map, ℤ, pos, negsuc, ◌==◌}

-- what a relocation tells besides its target
pub record Link : Type 0 where
  pub offset : ℕ
  pub kind : ℕ
  pub displacement : ℤ

-- a target: "outside" and the name's number, or "section" and what is told of the section
pub data Told (X : Type 0) : Type 0 where
  outside : ℕ → Told X
  section : X → Told X

-- a relocation
pub record Arm (X : Type 0) : Type 0 where
  pub link : Link
  pub target : Told X

-- a section: its mark, its face and its relocations in order, where X is what is told of a section that one points at
pub record Shape (M F X : Type 0) : Type 0 where
  pub mark : M
  pub face : F
  pub arms : List (Arm X)

-- the same with something else told of the sections pointed at

abbrev pub told_map : {X Y : Type 0} → (X → Y) → Told X → Told Y
told_map f (outside e) = outside e
told_map f (section x) = section (f x)

abbrev pub arm_map : {X Y : Type 0} → (X → Y) → Arm X → Arm Y
arm_map f a = record { link = a.link; target = told_map f a.target }

abbrev pub shape_map : {M F X Y : Type 0} → (X → Y) → Shape M F X → Shape M F Y
shape_map f x = record { mark = x.mark; face = x.face; arms = map (arm_map f) x.arms }

-- the sections by their numbers
abbrev pub Look : Type 0 → Type 0 → Type 0
Look M F = ℕ → Shape M F ℕ

-- what a section is told as at depth 0: its mark; at depth k + 1: its mark, its face and its relocations, each section pointed
-- at told as at depth k
abbrev pub Unfolding : Type 0 → Type 0 → ℕ → Type 0
Unfolding M F zero = M
Unfolding M F (suc k) = Shape M F (Unfolding M F k)

-- the unfolding at depth k of section s
abbrev pub unfolding_at : {M F : Type 0} → Look M F → (k : ℕ) → ℕ → Unfolding M F k
unfolding_at l zero s = (l s).mark
unfolding_at l (suc k) s = shape_map (unfolding_at l k) (l s)

-- equality of unfoldings as a test, from tests of marks and faces

abbrev pub same_integer : ℤ → ℤ → Bool
same_integer (pos a) (pos b) = a == b
same_integer (pos a) (negsuc b) = false
same_integer (negsuc a) (pos b) = false
same_integer (negsuc a) (negsuc b) = a == b

abbrev pub same_link : Link → Link → Bool
same_link a b = a.offset == b.offset && (a.kind == b.kind && same_integer a.displacement b.displacement)

abbrev pub same_told : {X : Type 0} → (X → X → Bool) → Told X → Told X → Bool
same_told e (outside a) (outside b) = a == b
same_told e (outside a) (section y) = false
same_told e (section x) (outside b) = false
same_told e (section x) (section y) = e x y

abbrev pub same_arm : {X : Type 0} → (X → X → Bool) → Arm X → Arm X → Bool
same_arm e a b = same_link a.link b.link && same_told e a.target b.target

abbrev pub same_list : {X : Type 0} → (X → X → Bool) → List X → List X → Bool
same_list e [] [] = true
same_list e [] (y ∷ ys) = false
same_list e (x ∷ xs) [] = false
same_list e (x ∷ xs) (y ∷ ys) = e x y && same_list e xs ys

abbrev pub same_shape : {M F X : Type 0} → (M → M → Bool) → (F → F → Bool) → (X → X → Bool) → Shape M F X → Shape M F X → Bool
same_shape m f e a b = m a.mark b.mark && (f a.face b.face && same_list (same_arm e) a.arms b.arms)

abbrev pub same_unfolding :
    {M F : Type 0} → (M → M → Bool) → (F → F → Bool) → (k : ℕ) → Unfolding M F k → Unfolding M F k → Bool
same_unfolding m f zero = m
same_unfolding m f (suc k) = same_shape m f (same_unfolding m f k)
