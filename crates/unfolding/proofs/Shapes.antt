-- Shapes, with what is told of the sections pointed at put through a function: two results are equal exactly when the shapes are equal
-- but for the sections pointed at, and these are told alike one by one.
use Rattle.std.proofs.Common.{◌≡◌, ℕ, List, [], ◌∷◌, map, refl, ap, arith}
use mathlib.Core.Path.{fun_ext}
use Rattle.unfolding.specs.Depth.{Told, outside, section, Arm, Shape, told_map, arm_map, shape_map}

-- the relation

abbrev pub ToldRel : {X Y : Type 0} → (X → Y → Type 0) → Told X → Told Y → Type 0
ToldRel R (outside a) (outside b) = a ≡ b
ToldRel R (outside a) (section y) = ⊥
ToldRel R (section x) (outside b) = ⊥
ToldRel R (section x) (section y) = R x y

abbrev pub ArmsRel : {X Y : Type 0} → (X → Y → Type 0) → List (Arm X) → List (Arm Y) → Type 0
ArmsRel R [] [] = Unit {0}
ArmsRel R [] (b ∷ bs) = ⊥
ArmsRel R (a ∷ as') [] = ⊥
ArmsRel R (a ∷ as') (b ∷ bs) = (a.link ≡ b.link) × ToldRel R a.target b.target × ArmsRel R as' bs

pub record ShapeRel {M F X Y : Type 0} (R : X → Y → Type 0) (x : Shape M F X) (y : Shape M F Y) : Type 0 where
  pub marks : x.mark ≡ y.mark
  pub faces : x.face ≡ y.face
  pub arms : ArmsRel R x.arms y.arms

module _ {X Y Z : Type 0} (f : X → Z) (h : Y → Z) where
  told_to : (x : Told X) (y : Told Y) → told_map f x ≡ told_map h y → ToldRel (λ a b. f a ≡ h b) x y
  told_to (outside a) (outside b) e = cc
  told_to (outside a) (section b) e = let z : ◌≡◌ {A = ℕ} 0 1 = cc in absurd (omega arith)
  told_to (section a) (outside b) e = let z : ◌≡◌ {A = ℕ} 0 1 = cc in absurd (omega arith)
  told_to (section a) (section b) e = cc

  told_from : (x : Told X) (y : Told Y) → ToldRel (λ a b. f a ≡ h b) x y → told_map f x ≡ told_map h y
  told_from (outside a) (outside b) e = cc
  told_from (outside a) (section b) e = absurd e
  told_from (section a) (outside b) e = absurd e
  told_from (section a) (section b) e = cc

  arms_to : (xs : List (Arm X)) (ys : List (Arm Y)) → map (arm_map f) xs ≡ map (arm_map h) ys → ArmsRel (λ a b. f a ≡ h b) xs ys
  arms_to [] [] e = tt
  arms_to [] (y ∷ ys) e = let z : ◌≡◌ {A = ℕ} 0 1 = cc in absurd (omega arith)
  arms_to (x ∷ xs) [] e = let z : ◌≡◌ {A = ℕ} 0 1 = cc in absurd (omega arith)
  arms_to (x ∷ xs) (y ∷ ys) e =
      let heads : arm_map f x ≡ arm_map h y = cc in
      let tails : map (arm_map f) xs ≡ map (arm_map h) ys = cc in
      (ap (λ (a : Arm Z). a.link) heads, told_to x.target y.target (ap (λ (a : Arm Z). a.target) heads), arms_to xs ys tails)

  arms_from : (xs : List (Arm X)) (ys : List (Arm Y)) → ArmsRel (λ a b. f a ≡ h b) xs ys → map (arm_map f) xs ≡ map (arm_map h) ys
  arms_from [] [] e = refl
  arms_from [] (y ∷ ys) e = absurd e
  arms_from (x ∷ xs) [] e = absurd e
  arms_from (x ∷ xs) (y ∷ ys) e =
      let links = e.0 in
      let targets = told_from x.target y.target e.1 in
      let tails = arms_from xs ys e.2 in
      λ i. record { link = links i; target = targets i } ∷ tails i

  pub shape_to : {M F : Type 0} (x : Shape M F X) (y : Shape M F Y) → shape_map f x ≡ shape_map h y → ShapeRel (λ a b. f a ≡ h b) x y
  shape_to {M} {F} x y e =
      record {
        marks = ap (λ (z : Shape M F Z). z.mark) e;
        faces = ap (λ (z : Shape M F Z). z.face) e;
        arms = arms_to x.arms y.arms (ap (λ (z : Shape M F Z). z.arms) e);
      }

  pub shape_from : {M F : Type 0} (x : Shape M F X) (y : Shape M F Y) → ShapeRel (λ a b. f a ≡ h b) x y → shape_map f x ≡ shape_map h y
  shape_from x y r =
      let arms = arms_from x.arms y.arms r.arms in
      λ i. record { mark = r.marks i; face = r.faces i; arms = arms i }

-- a weaker relation

module _ {X Y : Type 0} (R Q : X → Y → Type 0) (weaker : (a : X) (b : Y) → R a b → Q a b) where
  told_weaker : (x : Told X) (y : Told Y) → ToldRel R x y → ToldRel Q x y
  told_weaker (outside a) (outside b) e = e
  told_weaker (outside a) (section b) e = e
  told_weaker (section a) (outside b) e = e
  told_weaker (section a) (section b) e = weaker a b e

  arms_weaker : (xs : List (Arm X)) (ys : List (Arm Y)) → ArmsRel R xs ys → ArmsRel Q xs ys
  arms_weaker [] [] e = tt
  arms_weaker [] (y ∷ ys) e = e
  arms_weaker (x ∷ xs) [] e = e
  arms_weaker (x ∷ xs) (y ∷ ys) e = (e.0, told_weaker x.target y.target e.1, arms_weaker xs ys e.2)

  pub shape_weaker : {M F : Type 0} (x : Shape M F X) (y : Shape M F Y) → ShapeRel R x y → ShapeRel Q x y
  shape_weaker x y r = record { marks = r.marks; faces = r.faces; arms = arms_weaker x.arms y.arms r.arms }

-- one function after the other

module _ {X Y Z : Type 0} (f : X → Y) (h : Y → Z) where
  told_after : (x : Told X) → told_map h (told_map f x) ≡ told_map (λ a. h (f a)) x
  told_after (outside a) = refl
  told_after (section a) = refl

  arms_after : (xs : List (Arm X)) → map (arm_map h) (map (arm_map f) xs) ≡ map (arm_map (λ a. h (f a))) xs
  arms_after [] = refl
  arms_after (x ∷ xs) =
      let tails = arms_after xs in
      let heads = told_after x.target in
      λ i. record { link = x.link; target = heads i } ∷ tails i

  pub shape_after : {M F : Type 0} (x : Shape M F X) → shape_map h (shape_map f x) ≡ shape_map (λ a. h (f a)) x
  shape_after x =
      let arms = arms_after x.arms in
      λ i. record { mark = x.mark; face = x.face; arms = arms i }

-- functions with the same values
pub shape_same :
    {M F X Y : Type 0} (f h : X → Y) → ((a : X) → f a ≡ h a) → (x : Shape M F X) → shape_map f x ≡ shape_map h x
shape_same f h e x =
    let same = fun_ext e in
    λ i. shape_map (same i) x
