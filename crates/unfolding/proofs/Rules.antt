-- What unfoldings tell by the rules is lawful.
use Rattle.std.proofs.Common.{◌≡◌, ℕ, ◌&&◌, eqb, Some, None, Decides, Option, refl, ap, arith}
use Rattle.std.proofs.lemmas.Bool.Decides.{Decides-eqb, Decides-and, Decides-like}
use Rattle.model.specs.declared.Setting.{Setting}
use Rattle.model.specs.declared.Setting.TheVariants.{Foldable, Pinned}
use Rattle.unfolding.specs.Depth.{same_list}
use Rattle.unfolding.specs.Telling.{Lawful, Marked}
use Rattle.unfolding.specs.Sections.{Mark, pinned, foldable, absent, Face, mark_of, same_mark, same_face, rules}
use Rattle.unfolding.proofs.Same.{decides_both, list_decides}

mark_decides : (x y : Mark) → Decides (same_mark x y) (x ≡ y)
mark_decides (pinned s) (pinned t) = Decides-like (eqb s t) (λ e. cc) (λ e. cc) (Decides-eqb s t)
mark_decides (pinned s) foldable = (λ e. cc, λ e. cc)
mark_decides (pinned s) absent = (λ e. cc, λ e. cc)
mark_decides foldable (pinned t) = (λ e. cc, λ e. cc)
mark_decides foldable foldable = (λ e. refl, λ e. refl)
mark_decides foldable absent = (λ e. cc, λ e. cc)
mark_decides absent (pinned t) = (λ e. cc, λ e. cc)
mark_decides absent foldable = (λ e. cc, λ e. cc)
mark_decides absent absent = (λ e. refl, λ e. refl)

pub face_decides : (x y : Face) → Decides (same_face x y) (x ≡ y)
face_decides x y =
    decides_both
    (eqb x.flags y.flags)
    (eqb x.alignment y.alignment && same_list eqb x.bytes y.bytes)
    (Decides-eqb x.flags y.flags)
    (Decides-and
    (eqb x.alignment y.alignment)
    (same_list eqb x.bytes y.bytes)
    (Decides-eqb x.alignment y.alignment)
    (list_decides eqb Decides-eqb x.bytes y.bytes))
    (λ p h i. record { flags = p i; alignment = h.0 i; bytes = h.1 i })
    (λ e. ap (λ (z : Face). z.flags) e)
    (λ e. (ap (λ (z : Face). z.alignment) e, ap (λ (z : Face). z.bytes) e))

mark_meaning : (s t : ℕ) (a b : Option Setting) → mark_of s a ≡ mark_of t b → Marked s a t b
mark_meaning s t None None e = tt
mark_meaning s t None (Some Foldable) e = let z : ◌≡◌ {A = ℕ} 0 1 = cc in omega arith
mark_meaning s t None (Some Pinned) e = let z : ◌≡◌ {A = ℕ} 0 1 = cc in omega arith
mark_meaning s t (Some Foldable) None e = let z : ◌≡◌ {A = ℕ} 0 1 = cc in omega arith
mark_meaning s t (Some Pinned) None e = let z : ◌≡◌ {A = ℕ} 0 1 = cc in omega arith
mark_meaning s t (Some Foldable) (Some Foldable) e = tt
mark_meaning s t (Some Foldable) (Some Pinned) e = let z : ◌≡◌ {A = ℕ} 0 1 = cc in omega arith
mark_meaning s t (Some Pinned) (Some Foldable) e = let z : ◌≡◌ {A = ℕ} 0 1 = cc in omega arith
mark_meaning s t (Some Pinned) (Some Pinned) e = cc

pub lawful_rules : Lawful rules
unfolding rules
lawful_rules = record { marks = mark_decides; faces = face_decides; meaning = mark_meaning; bare = λ b rs. refl }
