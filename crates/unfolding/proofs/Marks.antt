-- What two sections have in common that agree at depth 0, and stability for all sections from stability for the foldable ones.
use Rattle.std.proofs.Common.{◌≡◌, ℕ, zero, suc, ◌<◌, ◌≤◌, true, false, [], is_some, Some, None, Decides, Option, sym, refl, ap, ◌∙◌, ⊎_elim, arith}
use Rattle.std.specs.Option.{option_map}
use Rattle.std.proofs.lemmas.Bool.{cases_lt, both_ways}
use Rattle.std.proofs.lemmas.List.{get_or_past}
use Rattle.model.specs.declared.Setting.{Setting}
use Rattle.model.specs.declared.Setting.TheVariants.{Foldable, Pinned}
use Rattle.model.specs.Graph.{Body, Graph, section_of, count_of, Present}
use Rattle.unfolding.specs.Depth.{unfolding_at, shape_map}
use Rattle.unfolding.specs.Telling.{Telling, Lawful, Marked, setting_in, setting_of, seen, look, AgreeBy, AlikeBy, agrees_by}
use Rattle.unfolding.specs.Groups.{may_fold, foldable, FoldAble, StableBy}
use Rattle.unfolding.proofs.Same.{unfolding_decides}
use Rattle.unfolding.proofs.Depths.{narrows, narrows_to, Steady, steady_later, steady_alike}

-- present sections are below the count
pub present_bound : (g : Graph) (s : ℕ) → Present g s → s < count_of g
present_bound g s h =
    ⊎_elim
    (λ lt. lt)
    (λ le. absurd (both_ways (is_some (section_of g s)) (ap (λ (o : Option Body). is_some o) (get_or_past g.sections s None le)) h))
    (cases_lt s (count_of g))

-- foldable ones are present
pub fold_present : (g : Graph) (s : ℕ) → FoldAble g s → Present g s
fold_present g s h = go (section_of g s) refl h
  where
    go : (a : Option Body) → section_of g s ≡ a → may_fold (option_map setting_in a) ≡ true → is_some a ≡ true
    go None e f = f
    go (Some b) e f = refl

pub fold_bound : (g : Graph) (s : ℕ) → FoldAble g s → s < count_of g
fold_bound g s h = present_bound g s (fold_present g s h)

-- both are absent, both are foldable, or they are one pinned section
pub data Kinds (g : Graph) (s : ℕ) (h : Graph) (t : ℕ) : Type 0 where
  both_absent : section_of g s ≡ None → section_of h t ≡ None → Kinds g s h t
  both_foldable : FoldAble g s → FoldAble h t → Kinds g s h t
  one_pinned : s ≡ t → Present g s → Present h t → foldable g s ≡ false → foldable h t ≡ false → Kinds g s h t

pub kinds_of : (g : Graph) (s : ℕ) (h : Graph) (t : ℕ) → Marked s (setting_of g s) t (setting_of h t) → Kinds g s h t
kinds_of g s h t m = go (section_of g s) (section_of h t) refl refl m
  where
    at :
        (x y : Body) →
        section_of g s ≡ Some x →
        section_of h t ≡ Some y →
        (p q : Setting) →
        x.setting ≡ p →
        y.setting ≡ q →
        Marked s (Some p) t (Some q) →
        Kinds g s h t
    at x y e f Foldable Foldable p q m = both_foldable (rw (e, p)) (rw (f, q))
    at x y e f Foldable Pinned p q m = absurd m
    at x y e f Pinned Foldable p q m = absurd m
    at x y e f Pinned Pinned p q m = one_pinned m (rw e) (rw f) (rw (e, p)) (rw (f, q))

    go :
        (a b : Option Body) →
        section_of g s ≡ a →
        section_of h t ≡ b →
        Marked s (option_map setting_in a) t (option_map setting_in b) →
        Kinds g s h t
    go None None e f m = both_absent e f
    go None (Some y) e f m = absurd m
    go (Some x) None e f m = absurd m
    go (Some x) (Some y) e f m = at x y e f x.setting y.setting refl refl m

-- they are present together
pub kinds_present : (g : Graph) (s : ℕ) (h : Graph) (t : ℕ) → Kinds g s h t → Present g s → Present h t
kinds_present g s h t (both_absent a b) p = absurd (both_ways (is_some (section_of g s)) (rw a) p)
kinds_present g s h t (both_foldable a b) p = fold_present h t b
kinds_present g s h t (one_pinned same a b c d) p = b

module _ {M F : Type 0} (T : Telling M F) (L : Lawful T) where
  pub agree_kinds : (k : ℕ) (g : Graph) (s : ℕ) (h : Graph) (t : ℕ) → AgreeBy T k g s h t → Kinds g s h t
  agree_kinds k g s h t e =
      kinds_of g s h t (L.meaning s t (setting_of g s) (setting_of h t) (narrows_to (look T g) (look T h) zero k s t (omega arith) e))

  pub agrees_decides : (k : ℕ) (g : Graph) (s : ℕ) (h : Graph) (t : ℕ) → Decides (agrees_by T k g s h t) (AgreeBy T k g s h t)
  agrees_decides k g s h t =
      unfolding_decides
      T.same_mark
      L.marks
      T.same_face
      L.faces
      k
      (unfolding_at (look T g) k s)
      (unfolding_at (look T h) k t)

  -- absent sections with equal marks are told alike
  absent_same :
      (g : Graph) (s : ℕ) (h : Graph) (t : ℕ) →
      section_of g s ≡ None →
      section_of h t ≡ None →
      (look T g s).mark ≡ (look T h t).mark →
      look T g s ≡ look T h t
  absent_same g s h t a b e =
      let told : T.mark s None ≡ T.mark t None = rw (a, b) at e in
      let same : seen T s None ≡ seen T t None = λ i. record { mark = told i; face = T.face None; arms = [] } in
      ap (seen T s) a ∙ (same ∙ sym (ap (seen T t) b))

  pub stable_steady : (g : Graph) (k : ℕ) → StableBy T g k → Steady (look T g) k
  stable_steady g k c s t e = go (agree_kinds k g s g t e)
    where
      go : Kinds g s g t → AgreeBy T (suc k) g s g t
      go (both_absent a b) =
          ap
          (shape_map (unfolding_at (look T g) k))
          (absent_same g s g t a b (narrows_to (look T g) (look T g) zero k s t (omega arith) e))
      go (both_foldable a b) = c.finer s t a b e
      go (one_pinned same p q a b) = ap (unfolding_at (look T g) (suc k)) same

  -- agreement at a stable depth is agreement at every depth
  pub decided : (g : Graph) (k : ℕ) → StableBy T g k → (s t : ℕ) → AgreeBy T k g s g t → AlikeBy T g s g t
  decided g k c s t e = steady_alike (look T g) k (stable_steady g k c) s t e

  pub stays_stable : (g : Graph) (k m : ℕ) → StableBy T g k → k ≤ m → StableBy T g m
  stays_stable g k m c h =
      record {
        finer = λ s t _ _. steady_later (look T g) k m h (stable_steady g k c) s t;
        coarser = λ s t _ _. narrows (look T g) (look T g) m s t;
      }
