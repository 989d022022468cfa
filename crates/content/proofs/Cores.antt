-- The test of cores decides their equality, and a digest tells no more than a core.
use Rattle.std.proofs.Common.{◌≡◌, ℕ, ◌+◌, ◌≤◌, ◌&&◌, eqb, List, [], ◌∷◌, map, length, drop, Some, None, Decides, Option, sym, refl, ap, ◌∙◌, arith}
use Rattle.std.proofs.lemmas.Bool.Decides.{Decides-eqb, Decides-and, Decides-like}
use Rattle.std.proofs.lemmas.List.{drop_all}
use Rattle.model.specs.declared.Target.{Target}
use Rattle.model.specs.declared.Target.TheVariants.{Section, Outside}
use Rattle.model.specs.declared.Relocation.{Relocation}
use Rattle.model.specs.Graph.{Body, told_relocation}
use Rattle.graph.proofs.Places.{drop_nth, nth_none}
use Rattle.unfolding.specs.Depth.{Arm, told_map, same_integer, same_list}
use Rattle.unfolding.specs.Telling.{told_target}
use Rattle.unfolding.specs.Sections.{face_of, same_face}
use Rattle.unfolding.proofs.Same.{decides_both, integer_decides}
use Rattle.unfolding.proofs.Rules.{face_decides}
use Rattle.content.specs.Core.{unnamed, bare, same_outside, same_bare, Core, core_of, same_core, mixed_arm, mixed_arms}
use Rattle.graph.specs.Bytes.{relocations_in}
use Rattle.graph.proofs.Told.{relocation_nth}

outside_decides : (a b : Target) → Decides (same_outside a b) (told_map unnamed (told_target a) ≡ told_map unnamed (told_target b))
outside_decides (Section a) (Section b) = (λ e. refl, λ e. refl)
outside_decides (Section a) (Outside f) = (λ e. cc, λ e. cc)
outside_decides (Outside e) (Section b) = (λ e. cc, λ e. cc)
outside_decides (Outside e) (Outside f) = Decides-like (eqb e f) (λ h. cc) (λ h. cc) (Decides-eqb e f)

bare_decides : (r q : Relocation) → Decides (same_bare r q) (bare r ≡ bare q)
bare_decides r q =
    decides_both
    (eqb r.offset q.offset)
    (eqb r.kind q.kind && (same_integer r.displacement q.displacement && same_outside r.target q.target))
    (Decides-eqb r.offset q.offset)
    (Decides-and
    (eqb r.kind q.kind)
    (same_integer r.displacement q.displacement && same_outside r.target q.target)
    (Decides-eqb r.kind q.kind)
    (Decides-and
    (same_integer r.displacement q.displacement)
    (same_outside r.target q.target)
    (integer_decides r.displacement q.displacement)
    (outside_decides r.target q.target)))
    (λ o h i. record { link = record { offset = o i; kind = h.0 i; displacement = h.1.0 i }; target = h.1.1 i })
    (λ e. ap (λ (a : Arm ℕ). a.link.offset) e)
    (λ e. (ap (λ (a : Arm ℕ). a.link.kind) e, (ap (λ (a : Arm ℕ). a.link.displacement) e, ap (λ (a : Arm ℕ). a.target) e)))

links_decide : (rs qs : List Relocation) → Decides (same_list same_bare rs qs) (map bare rs ≡ map bare qs)
links_decide [] [] = (λ e. refl, λ e. refl)
links_decide [] (q ∷ qs) = (λ e. cc, λ e. cc)
links_decide (r ∷ rs) [] = (λ e. cc, λ e. cc)
links_decide (r ∷ rs) (q ∷ qs) =
    decides_both
    (same_bare r q)
    (same_list same_bare rs qs)
    (bare_decides r q)
    (links_decide rs qs)
    (λ a b i. a i ∷ b i)
    (λ e. cc)
    (λ e. cc)

pub core_decides : (a b : Option Body) → Decides (same_core a b) (core_of a ≡ core_of b)
core_decides a b =
    decides_both
    (same_face (face_of a) (face_of b))
    (same_list same_bare (relocations_in a) (relocations_in b))
    (face_decides (face_of a) (face_of b))
    (links_decide (relocations_in a) (relocations_in b))
    (λ p q i. record { face = p i; arms = q i })
    (λ e. ap (λ (c : Core). c.face) e)
    (λ e. ap (λ (c : Core). c.arms) e)

-- the digest, relocation by relocation

pub digest_some :
    (o : Option Body) (h j : ℕ) (r : Relocation) →
    told_relocation o j ≡ Some r →
    mixed_arms (mixed_arm h (bare r)) (map bare (drop (j + 1) (relocations_in o))) ≡ mixed_arms h (map bare (drop j (relocations_in o)))
digest_some o h j r e =
    sym
    (ap (λ (rs : List Relocation). mixed_arms h (map bare rs))
    (drop_nth (relocations_in o) j r (sym (relocation_nth o j) ∙ e)))

pub digest_none :
    (o : Option Body) (h j : ℕ) →
    told_relocation o j ≡ None →
    mixed_arms h (map bare (drop (j + 1) (relocations_in o))) ≡ mixed_arms h (map bare (drop j (relocations_in o)))
digest_none o h j e =
    let past : length (relocations_in o) ≤ j = nth_none (relocations_in o) j (sym (relocation_nth o j) ∙ e) in
    ap (λ (rs : List Relocation). mixed_arms h (map bare rs))
    (drop_all (j + 1) (relocations_in o) (omega arith) ∙ sym (drop_all j (relocations_in o) past))
