-- The tests decide equality.
use Rattle.std.proofs.Common.{◌≡◌, ℕ, zero, suc, Bool, ◌&&◌, eqb, List, [], ◌∷◌, ℤ, pos, negsuc, Decides, refl, ap}
use Rattle.std.proofs.lemmas.Bool.Decides.{Decides-eqb, Decides-and, Decides-like}
use Rattle.unfolding.specs.Depth.{Link, Told, outside, section, Arm, Shape, Unfolding, same_integer, same_link, same_told, same_arm, same_list, same_shape, same_unfolding}

-- two tests of two parts, for a pair of parts that is equal exactly when the parts are
pub decides_both :
    {P Q R : Type 0} (x y : Bool) → Decides x P → Decides y Q → (P → Q → R) → (R → P) → (R → Q) → Decides (x && y) R
decides_both x y p q join left right = Decides-like (x && y) (λ h. join h.0 h.1) (λ r. (left r, right r)) (Decides-and x y p q)

pub integer_decides : (x y : ℤ) → Decides (same_integer x y) (x ≡ y)
integer_decides (pos a) (pos b) = Decides-like (eqb a b) (λ e. cc) (λ e. cc) (Decides-eqb a b)
integer_decides (pos a) (negsuc b) = (λ e. cc, λ e. cc)
integer_decides (negsuc a) (pos b) = (λ e. cc, λ e. cc)
integer_decides (negsuc a) (negsuc b) = Decides-like (eqb a b) (λ e. cc) (λ e. cc) (Decides-eqb a b)

pub link_decides : (x y : Link) → Decides (same_link x y) (x ≡ y)
link_decides x y =
    decides_both
    (eqb x.offset y.offset)
    (eqb x.kind y.kind && same_integer x.displacement y.displacement)
    (Decides-eqb x.offset y.offset)
    (Decides-and
    (eqb x.kind y.kind)
    (same_integer x.displacement y.displacement)
    (Decides-eqb x.kind y.kind)
    (integer_decides x.displacement y.displacement))
    (λ o h i. record { offset = o i; kind = h.0 i; displacement = h.1 i })
    (λ e. ap (λ (l : Link). l.offset) e)
    (λ e. (ap (λ (l : Link). l.kind) e, ap (λ (l : Link). l.displacement) e))

pub list_decides :
    {X : Type 0} (test : X → X → Bool) → ((x y : X) → Decides (test x y) (x ≡ y)) → (xs ys : List X) → Decides (same_list test xs ys) (xs ≡ ys)
list_decides test each [] [] = (λ e. refl, λ e. refl)
list_decides test each [] (y ∷ ys) = (λ e. cc, λ e. cc)
list_decides test each (x ∷ xs) [] = (λ e. cc, λ e. cc)
list_decides test each (x ∷ xs) (y ∷ ys) =
    decides_both
    (test x y)
    (same_list test xs ys)
    (each x y)
    (list_decides test each xs ys)
    (λ p q i. p i ∷ q i)
    (λ e. cc)
    (λ e. cc)

module _ {X : Type 0} (test : X → X → Bool) (each : (x y : X) → Decides (test x y) (x ≡ y)) where
  told_decides : (x y : Told X) → Decides (same_told test x y) (x ≡ y)
  told_decides (outside a) (outside b) = Decides-like (eqb a b) (λ e. cc) (λ e. cc) (Decides-eqb a b)
  told_decides (outside a) (section b) = (λ e. cc, λ e. cc)
  told_decides (section a) (outside b) = (λ e. cc, λ e. cc)
  told_decides (section a) (section b) = Decides-like (test a b) (λ e. cc) (λ e. cc) (each a b)

  arm_decides : (x y : Arm X) → Decides (same_arm test x y) (x ≡ y)
  arm_decides x y =
      decides_both
      (same_link x.link y.link)
      (same_told test x.target y.target)
      (link_decides x.link y.link)
      (told_decides x.target y.target)
      (λ p q i. record { link = p i; target = q i })
      (λ e. ap (λ (a : Arm X). a.link) e)
      (λ e. ap (λ (a : Arm X). a.target) e)

module _ {M F : Type 0} (m : M → M → Bool) (marks : (x y : M) → Decides (m x y) (x ≡ y)) (f : F → F → Bool) (faces : (x y : F) → Decides (f x y) (x ≡ y)) where
  shape_decides :
      {X : Type 0} (test : X → X → Bool) → ((x y : X) → Decides (test x y) (x ≡ y)) → (x y : Shape M F X) → Decides (same_shape m f test x y) (x ≡ y)
  shape_decides {X} test each x y =
      decides_both
      (m x.mark y.mark)
      (f x.face y.face && same_list (same_arm test) x.arms y.arms)
      (marks x.mark y.mark)
      (Decides-and
      (f x.face y.face)
      (same_list (same_arm test) x.arms y.arms)
      (faces x.face y.face)
      (list_decides (same_arm test) (arm_decides test each) x.arms y.arms))
      (λ p h i. record { mark = p i; face = h.0 i; arms = h.1 i })
      (λ e. ap (λ (z : Shape M F X). z.mark) e)
      (λ e. (ap (λ (z : Shape M F X). z.face) e, ap (λ (z : Shape M F X). z.arms) e))

  pub unfolding_decides : (k : ℕ) (x y : Unfolding M F k) → Decides (same_unfolding m f k x y) (x ≡ y)
  unfolding_decides zero x y = marks x y
  unfolding_decides (suc k) x y = shape_decides (same_unfolding m f k) (unfolding_decides k) x y
