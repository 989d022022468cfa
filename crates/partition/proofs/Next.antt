-- The classes at depth k + 1 from those at depth k.
use Rattle.std.proofs.Common.{◌≡◌, ℕ, suc, ◌<◌, ◌≤◌, true, false, ◌&&◌, eqb, ltb, List, map, length, get_or, is_some, Some, None, Option, sym, refl, ap, ◌∙◌, subst, ⊎_elim, arith}
use Rattle.std.specs.List.{AllByRecursion}
use Rattle.std.proofs.lemmas.Bool.{cases_lt, cases_Bool, both_ways, cond-true, lt-ltb, eq-eqb, eqb-true, and_parts, and_from}
use Rattle.model.specs.Graph.{Body, Graph, Present, section_of}
use Rattle.model.specs.Laws.{Valid, LawfulRelocation}
use Rattle.graph.specs.Bytes.{bytes_in, relocations_in}
use Rattle.unfolding.specs.Depth.{Arm, unfolding_at, same_list}
use Rattle.unfolding.specs.Telling.{look, arms_in, arm}
use Rattle.unfolding.specs.Groups.{foldable, FoldAble}
use Rattle.unfolding.specs.Sections.{rules, Agree, face_of}
use Rattle.unfolding.proofs.Shapes.{ArmsRel, shape_to, shape_from}
use Rattle.unfolding.proofs.Depths.{narrows}
use Rattle.unfolding.proofs.Marks.{present_bound, Kinds, both_absent, both_foldable, one_pinned, agree_kinds}
use Rattle.unfolding.proofs.Classes.{class_itself, class_foldable, class_agrees, class_lowest, class_below, class_same, class_shares, class_class}
use Rattle.unfolding.proofs.Rules.{lawful_rules}
use Rattle.unfolding.proofs.Theorems.{marks_tell}
use Rattle.content.specs.Core.{Core, core_of}
use Rattle.content.specs.Aims.{class_in, same_aim}
use Rattle.content.proofs.Arms.{arms_join, arms_split}
use Rattle.partition.specs.declared.Base.{Base}
use Rattle.partition.specs.Classes.{Found, base_in, same_leader, same_base, Bases, class_at, Classed, Classes, joined}
use Rattle.partition.proofs.Leaders.{base_same, base_shares}

arms_are : (o : Option Body) → arms_in o ≡ map arm (relocations_in o)
arms_are None = refl
arms_are (Some b) = refl

lawful_all : (g : Graph) → Valid g → (s : ℕ) → AllByRecursion (LawfulRelocation (Present g) (length (bytes_in (section_of g s)))) (relocations_in (section_of g s))
lawful_all g v s = go (section_of g s) refl
  where
    go : (o : Option Body) → section_of g s ≡ o → AllByRecursion (LawfulRelocation (Present g) (length (bytes_in o))) (relocations_in o)
    go None e = tt
    go (Some b) e = (v.bodies s b e).relocations

look_face : (g : Graph) (s t : ℕ) → face_of (section_of g s) ≡ face_of (section_of g t) → (look rules g s).face ≡ (look rules g t).face
unfolding rules
look_face g s t e = e

face_look : (g : Graph) (s t : ℕ) → (look rules g s).face ≡ (look rules g t).face → face_of (section_of g s) ≡ face_of (section_of g t)
unfolding rules
face_look g s t e = e

module _ (g : Graph) (v : Valid g) (k : ℕ) (cs : List ℕ) (c : Classes g k cs) where
  -- what two sections pointed at have in common at depth k
  abbrev AlikeAt : ℕ → ℕ → Type 0
  AlikeAt a b = unfolding_at (look rules g) k a ≡ unfolding_at (look rules g) k b

  present_class : (a : ℕ) → Present g a → class_in cs a ≡ class_at g k a
  present_class a p =
      let low : a < 1024 = (let b = present_bound g a p in let f = v.few in omega arith) in
      cond-true (ltb a 1024) (get_or cs a 0) 0 (lt-ltb a 1024 low) ∙ c.at a low

  class_alike : (a b : ℕ) → Present g a → Present g b → class_in cs a ≡ class_in cs b → AlikeAt a b
  class_alike a b p q e = class_shares rules lawful_rules g k a b (sym (present_class a p) ∙ (e ∙ present_class b q))

  -- present sections that agree at depth k are of one class
  alike_class : (a b : ℕ) → Present g a → Present g b → AlikeAt a b → class_in cs a ≡ class_in cs b
  alike_class a b p q e = present_class a p ∙ (go (agree_kinds rules lawful_rules k g a g b e) ∙ sym (present_class b q))
    where
      go : Kinds g a g b → class_at g k a ≡ class_at g k b
      go (both_absent x y) = absurd (both_ways (is_some (section_of g a)) (ap (λ (o : Option Body). is_some o) x) p)
      go (both_foldable x y) = class_same rules lawful_rules g k a b x y e
      go (one_pinned same x y z w) = ap (class_at g k) same

  pub agree_next :
      (s t : ℕ) →
      FoldAble g s →
      FoldAble g t →
      core_of (section_of g s) ≡ core_of (section_of g t) →
      same_list (same_aim cs) (relocations_in (section_of g s)) (relocations_in (section_of g t)) ≡ true →
      Agree (suc k) g s g t
  agree_next s t h f e a =
      let arms : ArmsRel AlikeAt (map arm (relocations_in (section_of g s))) (map arm (relocations_in (section_of g t))) =
      arms_join
      (Present g)
      cs
      AlikeAt
      class_alike
      (length (bytes_in (section_of g s)))
      (length (bytes_in (section_of g t)))
      (relocations_in (section_of g s))
      (relocations_in (section_of g t))
      (lawful_all g v s)
      (lawful_all g v t)
      (ap (λ (x : Core). x.arms) e)
      a in
      shape_from
      (unfolding_at (look rules g) k)
      (unfolding_at (look rules g) k)
      (look rules g s)
      (look rules g t)
      (record {
        marks = marks_tell.joins g s g t h f;
        faces = look_face g s t (ap (λ (x : Core). x.face) e);
        arms =
            subst (λ (xs : List (Arm ℕ)). ArmsRel AlikeAt xs (arms_in (section_of g t))) (sym (arms_are (section_of g s)))
            (subst (λ (ys : List (Arm ℕ)). ArmsRel AlikeAt (map arm (relocations_in (section_of g s))) ys) (sym (arms_are (section_of g t))) arms);
      })

  pub next_agree :
      (s t : ℕ) →
      Agree (suc k) g s g t →
      (core_of (section_of g s) ≡ core_of (section_of g t)) ×
      (same_list (same_aim cs) (relocations_in (section_of g s)) (relocations_in (section_of g t)) ≡ true)
  next_agree s t e =
      let rel = shape_to (unfolding_at (look rules g) k) (unfolding_at (look rules g) k) (look rules g s) (look rules g t) e in
      let arms : ArmsRel AlikeAt (map arm (relocations_in (section_of g s))) (map arm (relocations_in (section_of g t))) =
      subst (λ (xs : List (Arm ℕ)). ArmsRel AlikeAt xs (map arm (relocations_in (section_of g t)))) (arms_are (section_of g s))
      (subst (λ (ys : List (Arm ℕ)). ArmsRel AlikeAt (arms_in (section_of g s)) ys) (arms_are (section_of g t)) rel.arms) in
      let parts =
      arms_split
      (Present g)
      cs
      AlikeAt
      alike_class
      (length (bytes_in (section_of g s)))
      (length (bytes_in (section_of g t)))
      (relocations_in (section_of g s))
      (relocations_in (section_of g t))
      (lawful_all g v s)
      (lawful_all g v t)
      arms in
      let face = face_look g s t rel.faces in
      let bares = parts.0 in
      ((λ i. record { face = face i; arms = bares i }), parts.1)

  -- what the search of a round finds is the class at depth k + 1
  pub round_class :
      (bases : List Base) (new : List ℕ) (s m : ℕ) →
      Bases g bases →
      Classed g (suc k) new s →
      s < 1024 →
      Found (joined g bases cs new s) (get_or cs s 0) s m →
      m ≡ class_at g (suc k) s
  round_class bases new s m b below l f = ⊎_elim inside outside (cases_lt m s)
    where
      old : (t : ℕ) → t < 1024 → get_or cs t 0 ≡ class_at g k t
      old = c.at

      inside : m < s → m ≡ class_at g (suc k) s
      inside lt = sym leads ∙ class_same rules lawful_rules g (suc k) m s fold_m fold_s (agree_next m s fold_m fold_s cores rest.1)
        where
          tests :
              (eqb (get_or new m 0) m ≡ true) ×
              ((eqb (get_or cs m 0) (get_or cs s 0) &&
              (same_base (base_in bases m) (base_in bases s) &&
              same_list (same_aim cs) (relocations_in (section_of g m)) (relocations_in (section_of g s)))) ≡
              true)
          tests =
              and_parts
              (eqb (get_or new m 0) m)
              (eqb (get_or cs m 0) (get_or cs s 0) &&
              (same_base (base_in bases m) (base_in bases s) &&
              same_list (same_aim cs) (relocations_in (section_of g m)) (relocations_in (section_of g s))))
              (f.found lt)

          more :
              (eqb (get_or cs m 0) (get_or cs s 0) ≡ true) ×
              ((same_base (base_in bases m) (base_in bases s) &&
              same_list (same_aim cs) (relocations_in (section_of g m)) (relocations_in (section_of g s))) ≡
              true)
          more =
              and_parts
              (eqb (get_or cs m 0) (get_or cs s 0))
              (same_base (base_in bases m) (base_in bases s) &&
              same_list (same_aim cs) (relocations_in (section_of g m)) (relocations_in (section_of g s)))
              tests.1

          rest :
              (same_base (base_in bases m) (base_in bases s) ≡ true) ×
              (same_list (same_aim cs) (relocations_in (section_of g m)) (relocations_in (section_of g s)) ≡ true)
          rest =
              and_parts
              (same_base (base_in bases m) (base_in bases s))
              (same_list (same_aim cs) (relocations_in (section_of g m)) (relocations_in (section_of g s)))
              more.1

          leads : class_at g (suc k) m ≡ m
          leads = sym (below m lt) ∙ eqb-true (get_or new m 0) m tests.0

          one : class_at g k m ≡ class_at g k s
          one = sym (old m (omega arith)) ∙ (eqb-true (get_or cs m 0) (get_or cs s 0) more.0 ∙ old s l)

          low : class_at g k s ≤ m
          low =
              let top : class_at g k s ≤ s = class_below rules lawful_rules g k s in
              let here : get_or cs s 0 ≡ class_at g k s = old s l in
              let from : get_or cs s 0 ≤ m = f.from (omega arith) in
              omega arith

          fold_s : FoldAble g s
          fold_s =
              ⊎_elim
              (λ h. h)
              (λ h.
              let from : class_at g k s ≤ m = low in
              let own : class_at g k s ≡ s = class_itself rules lawful_rules g k s h in
              absurd (omega arith))
              (cases_Bool (foldable g s))

          fold_m : FoldAble g m
          fold_m =
              ⊎_elim
              (λ h. h)
              (λ h.
              let own : class_at g k m ≡ m = class_itself rules lawful_rules g k m h in
              subst (FoldAble g) (sym one ∙ own) (class_foldable rules lawful_rules g k s fold_s))
              (cases_Bool (foldable g m))

          cores : core_of (section_of g m) ≡ core_of (section_of g s)
          cores =
              let parts =
              and_parts
              (same_leader (base_in bases m) (base_in bases s))
              (eqb (base_in bases m).digest (base_in bases s).digest)
              rest.0 in
              base_shares g m s fold_m fold_s
              (rw (b.at m (omega arith), b.at s l) at parts.0)

      outside : s ≤ m → m ≡ class_at g (suc k) s
      outside le = ⊎_elim group single (cases_Bool (foldable g s))
        where
          here : m ≡ s
          here = let top = f.bounded in omega arith

          single : foldable g s ≡ false → m ≡ class_at g (suc k) s
          single h = here ∙ sym (class_itself rules lawful_rules g (suc k) s h)

          group : FoldAble g s → m ≡ class_at g (suc k) s
          group h =
              ⊎_elim
              never
              (λ ge. let top : class_at g (suc k) s ≤ s = class_below rules lawful_rules g (suc k) s in omega arith)
              (cases_lt (class_at g (suc k) s) s)
            where
              never : class_at g (suc k) s < s → m ≡ class_at g (suc k) s
              never lt =
                  let n = class_at g (suc k) s in
                  let fold : FoldAble g n = class_foldable rules lawful_rules g (suc k) s h in
                  let agree : Agree (suc k) g n g s = class_agrees rules lawful_rules g (suc k) s in
                  let less : Agree k g n g s = narrows (look rules g) (look rules g) k n s agree in
                  let low : class_at g k s ≤ n = class_lowest rules lawful_rules g k s n h fold less in
                  let at : get_or cs s 0 ≡ class_at g k s = old s l in
                  let parts = next_agree n s agree in
                  absurd
                  (both_ways
                  (joined g bases cs new s n)
                  (f.before n (omega arith) (omega arith))
                  (and_from
                  (eqb (get_or new n 0) n)
                  (eqb (get_or cs n 0) (get_or cs s 0) &&
                  (same_base (base_in bases n) (base_in bases s) &&
                  same_list (same_aim cs) (relocations_in (section_of g n)) (relocations_in (section_of g s))))
                  (eq-eqb (get_or new n 0) n (below n lt ∙ class_class rules lawful_rules g (suc k) s))
                  (and_from
                  (eqb (get_or cs n 0) (get_or cs s 0))
                  (same_base (base_in bases n) (base_in bases s) &&
                  same_list (same_aim cs) (relocations_in (section_of g n)) (relocations_in (section_of g s)))
                  (eq-eqb (get_or cs n 0) (get_or cs s 0)
                  (old n (omega arith) ∙ (class_same rules lawful_rules g k n s fold h less ∙ sym (old s l))))
                  (and_from
                  (same_base (base_in bases n) (base_in bases s))
                  (same_list (same_aim cs) (relocations_in (section_of g n)) (relocations_in (section_of g s)))
                  (rw (b.at n (omega arith), b.at s l) (base_same g n s fold h parts.0))
                  parts.1))))
