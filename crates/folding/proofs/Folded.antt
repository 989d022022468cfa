-- The folded graph.
use Rattle.std.proofs.Common.{◌≡◌, ℕ, zero, suc, ◌+◌, ◌≤◌, Bool, true, false, cond, ◌&&◌, eqb, get_or, ℤ, ◌≤ℤ◌, is_some, Some, None, Option, sym, refl, ap, ◌∙◌, subst, ⊎_elim, arith}
use Rattle.std.specs.Option.{option_map}
use Rattle.std.proofs.lemmas.Bool.{cases_Bool, both_ways, cond-true, cond-false, eq-eqb, ne_eqb, eqb-true, eqb-false}
use Rattle.std.proofs.lemmas.List.{length-map}
use Rattle.std.proofs.lemmas.List.Folds.{map_fixed}
use Rattle.std.proofs.ByRecursion.{All-map, All-weaker}
use Rattle.model.specs.declared.Target.{Target}
use Rattle.model.specs.declared.Target.TheVariants.{Section, Outside}
use Rattle.model.specs.Graph.{Body, Graph, Present, section_of, count_of, root_of, root_count_of}
use Rattle.model.specs.Laws.{Aimed, highest, LawfulBody, Valid}
use Rattle.steps.specs.Below.{count_below}
use Rattle.steps.proofs.Count.{count_parts, count_same}
use Rattle.steps.proofs.Nth.{nth_map_some}
use Rattle.unfolding.specs.Depth.{Shape, unfolding_at, shape_map}
use Rattle.unfolding.specs.Telling.{Telling, Lawful, seen, look, AgreeBy, AlikeBy}
use Rattle.unfolding.specs.Groups.{foldable, FoldAble, present, present_count, rep_by, ApartBy, aimed, moved, folded_section, folded_by, merged_by}
use Rattle.unfolding.proofs.Shapes.{shape_after, shape_same}
use Rattle.unfolding.proofs.Marks.{Kinds, both_absent, both_foldable, one_pinned, fold_present, kinds_present, agree_kinds}
use Rattle.unfolding.proofs.Classes.{rep_alike, rep_same, rep_rep, rep_foldable, rep_itself, rep_lowest}
use Rattle.folding.proofs.Rebuilt.{rebuilt_at, rebuilt_length, rebuilt_same}
use Rattle.folding.proofs.Aimed.{moved_seen, aimed_same, lawful_aimed}

folded_none : (r : ℕ → ℕ) (s : ℕ) → folded_section r s None ≡ None
folded_none r s = go (eqb (r s) s)
  where
    go : (b : Bool) → cond {A = Option Body} b None None ≡ None
    go true = refl
    go false = refl

-- of a section there is something left exactly where there was something and it stays
folded_some : (r : ℕ → ℕ) (s : ℕ) (b : Option Body) → (is_some b && eqb (r s) s) ≡ is_some (folded_section r s b)
folded_some r s b = go (eqb (r s) s) b
  where
    go : (t : Bool) (b : Option Body) → (is_some b && t) ≡ is_some (cond t (option_map (aimed (moved r)) b) None)
    go true None = refl
    go true (Some b) = refl
    go false None = refl
    go false (Some b) = refl

module _ {M F : Type 0} (T : Telling M F) (L : Lawful T) (g : Graph) where
  pub folded_at : (s : ℕ) → section_of (folded_by T g) s ≡ folded_section (rep_by T g) s (section_of g s)
  folded_at s = rebuilt_at (folded_section (rep_by T g)) g (folded_none (rep_by T g)) s

  pub folded_count : count_of (folded_by T g) ≡ count_of g
  folded_count = rebuilt_length (folded_section (rep_by T g)) g

  -- a section that is its own representative stays
  pub folded_stays : (s : ℕ) → rep_by T g s ≡ s → section_of (folded_by T g) s ≡ option_map (aimed (moved (rep_by T g))) (section_of g s)
  folded_stays s e =
      folded_at s ∙
      cond-true (eqb (rep_by T g s) s) (option_map (aimed (moved (rep_by T g))) (section_of g s)) None (eq-eqb (rep_by T g s) s e)

  -- another goes
  pub folded_goes : (s : ℕ) → (rep_by T g s ≡ s → ⊥) → section_of (folded_by T g) s ≡ None
  folded_goes s ne =
      folded_at s ∙
      cond-false (eqb (rep_by T g s) s) (option_map (aimed (moved (rep_by T g))) (section_of g s)) None (ne_eqb (rep_by T g s) s ne)

  -- what is present is its own representative and was present
  pub folded_present : (s : ℕ) → Present (folded_by T g) s → (rep_by T g s ≡ s) × Present g s
  folded_present s p = go (eqb (rep_by T g s) s) refl
    where
      kept : (b : Option Body) → is_some (option_map (aimed (moved (rep_by T g))) b) ≡ true → is_some b ≡ true
      kept None e = e
      kept (Some b) e = refl

      go : (t : Bool) → eqb (rep_by T g s) s ≡ t → (rep_by T g s ≡ s) × Present g s
      go true e =
          let own = eqb-true (rep_by T g s) s e in
          (own, kept (section_of g s) (subst (λ (o : Option Body). is_some o ≡ true) (folded_stays s own) p))
      go false e =
          absurd
          (both_ways
          (is_some (section_of (folded_by T g) s))
          (ap (λ (o : Option Body). is_some o) (folded_goes s (eqb-false (rep_by T g s) s e)))
          p)

  pub rep_present : (s : ℕ) → Present g s → Present g (rep_by T g s)
  rep_present s p =
      kinds_present g s g (rep_by T g s) (agree_kinds T L 0 g s g (rep_by T g s) (sym (rep_alike T L g s 0))) p

  pub present_folded : (s : ℕ) → Present g s → Present (folded_by T g) (rep_by T g s)
  present_folded s p = rw (folded_stays (rep_by T g s) (rep_rep T L g s)) (some (section_of g (rep_by T g s)) (rep_present s p))
    where
      some : (b : Option Body) → is_some b ≡ true → is_some (option_map (aimed (moved (rep_by T g))) b) ≡ true
      some None e = e
      some (Some b) e = refl

  -- present sections that are alike have one representative, pinned ones too
  pub rep_joins : (s t : ℕ) → Present g s → AlikeBy T g s g t → rep_by T g s ≡ rep_by T g t
  rep_joins s t p e = go (agree_kinds T L 0 g s g t (e 0))
    where
      go : Kinds g s g t → rep_by T g s ≡ rep_by T g t
      go (both_absent a b) = absurd (both_ways (is_some (section_of g s)) (rw a) p)
      go (both_foldable a b) = rep_same T L g s t a b e
      go (one_pinned same a b c d) = ap (rep_by T g) same

  folded_look : (s : ℕ) → look T (folded_by T g) (rep_by T g s) ≡ shape_map (rep_by T g) (look T g (rep_by T g s))
  folded_look s =
      ap (seen T (rep_by T g s)) (folded_stays (rep_by T g s) (rep_rep T L g s)) ∙
      moved_seen T L (rep_by T g) (rep_by T g s) (section_of g (rep_by T g s))

  -- in the folded graph the representative unfolds as the section did
  pub folded_alike : (s : ℕ) → AlikeBy T (folded_by T g) (rep_by T g s) g s
  folded_alike s zero = ap (λ (x : Shape M F ℕ). x.mark) (folded_look s) ∙ rep_alike T L g s zero
  folded_alike s (suc k) =
      ap (shape_map (unfolding_at (look T (folded_by T g)) k)) (folded_look s) ∙
      (shape_after (rep_by T g) (unfolding_at (look T (folded_by T g)) k) (look T g (rep_by T g s)) ∙
      (shape_same
      (λ a. unfolding_at (look T (folded_by T g)) k (rep_by T g a))
      (unfolding_at (look T g) k)
      (λ a. folded_alike a k)
      (look T g (rep_by T g s)) ∙
      rep_alike T L g s (suc k)))

  -- as a section that is its own representative did itself
  pub folded_own : (s : ℕ) → rep_by T g s ≡ s → AlikeBy T (folded_by T g) s g s
  folded_own s e k = subst (λ (x : ℕ). AgreeBy T k (folded_by T g) x g s) e (folded_alike s k)

  pub folded_apart : ApartBy T (folded_by T g)
  folded_apart s t p q e =
      let a = folded_present s p in
      let b = folded_present t q in
      sym a.0 ∙
      (rep_joins s t a.1 (λ k. sym (folded_own s a.0 k) ∙ (e k ∙ folded_own t b.0 k)) ∙ b.0)

  -- what stays of a group is its lowest number
  pub folded_lowest : (s t : ℕ) → Present (folded_by T g) s → FoldAble g s → FoldAble g t → AlikeBy T g t g s → s ≤ t
  folded_lowest s t p h f e = subst (λ (x : ℕ). x ≤ t) (folded_present s p).0 (rep_lowest T L g s t h f e)

  pub folded_roots : (j s : ℕ) → root_of g j ≡ Some s → root_of (folded_by T g) j ≡ Some (rep_by T g s)
  folded_roots j s e = nth_map_some (rep_by T g) g.roots j s e

  pub folded_root_count : root_count_of (folded_by T g) ≡ root_count_of g
  folded_root_count = length-map g.roots (rep_by T g)

  pub folded_counts : present_count g ≡ present_count (folded_by T g) + merged_by T g
  folded_counts =
      let parts = count_parts (present g) (λ s. eqb (rep_by T g s) s) (count_of g) in
      let same : count_below (λ s. present g s && eqb (rep_by T g s) s) (count_of g) ≡ present_count (folded_by T g) =
      rw folded_count
      (count_same
      (λ s. present g s && eqb (rep_by T g s) s)
      (present (folded_by T g))
      (count_of g)
      (λ s _. folded_some (rep_by T g) s (section_of g s) ∙ ap (λ (o : Option Body). is_some o) (sym (folded_at s)))) in
      omega arith

  -- the laws hold again

  folded_body : (A B : ℕ → Type 0) (s : ℕ) (b : Body) → section_of (folded_by T g) s ≡ Some b →
      ((t : ℕ) → A t → B (rep_by T g t)) →
      ((c : Body) → section_of g s ≡ Some c → LawfulBody A c) →
      LawfulBody B b
  folded_body A B s b e aims laws = go (eqb (rep_by T g s) s) refl (section_of g s) refl
    where
      targets : (t : Target) → Aimed A t → Aimed B (moved (rep_by T g) t)
      targets (Section t) h = aims t h
      targets (Outside x) h = h

      bears : (t : Target) (z : ℤ) → z ≤ℤ highest t → z ≤ℤ highest (moved (rep_by T g) t)
      bears (Section t) z h = h
      bears (Outside x) z h = h

      go : (t : Bool) → eqb (rep_by T g s) s ≡ t → (o : Option Body) → section_of g s ≡ o → LawfulBody B b
      go false f o h =
          let gone = folded_goes s (eqb-false (rep_by T g s) s f) in
          let z : ◌≡◌ {A = ℕ} 0 1 = cc in
          absurd (omega arith)
      go true f None h =
          let stays = folded_stays s (eqb-true (rep_by T g s) s f) in
          let none : section_of (folded_by T g) s ≡ None = stays ∙ ap (option_map (aimed (moved (rep_by T g)))) h in
          let z : ◌≡◌ {A = ℕ} 0 1 = cc in
          absurd (omega arith)
      go true f (Some c) h =
          let stays = folded_stays s (eqb-true (rep_by T g s) s f) in
          let some : section_of (folded_by T g) s ≡ Some (aimed (moved (rep_by T g)) c) = stays ∙ ap (option_map (aimed (moved (rep_by T g)))) h in
          let same : aimed (moved (rep_by T g)) c ≡ b = cc in
          subst (LawfulBody B) same (lawful_aimed A B (moved (rep_by T g)) targets bears c (laws c h))

  pub folded_valid : Valid g → Valid (folded_by T g)
  folded_valid v =
      record {
        few = subst (λ (x : ℕ). x ≤ 1024) (sym folded_count) v.few;
        few_roots = subst (λ (x : ℕ). x ≤ 4096) (sym folded_root_count) v.few_roots;
        bodies = λ s b e. folded_body (Present g) (Present (folded_by T g)) s b e present_folded (v.bodies s);
        rooted =
            All-map
            (Present (folded_by T g))
            (rep_by T g)
            g.roots
            (All-weaker (Present g) (λ s. Present (folded_by T g) (rep_by T g s)) present_folded g.roots v.rooted);
      }

  -- where no two are alike the fold changes nothing

  apart_own : ApartBy T g → (s : ℕ) → rep_by T g s ≡ s
  apart_own apart s =
      ⊎_elim
      (λ h.
      apart (rep_by T g s) s (fold_present g (rep_by T g s) (rep_foldable T L g s h)) (fold_present g s h) (rep_alike T L g s))
      (λ h. rep_itself T L g s h)
      (cases_Bool (foldable g s))

  pub fold_settled : ApartBy T g → folded_by T g ≡ g
  fold_settled apart =
      let own = apart_own apart in
      let sections =
      rebuilt_same (folded_section (rep_by T g)) g (folded_none (rep_by T g))
      (λ s.
      cond-true (eqb (rep_by T g s) s) (option_map (aimed (moved (rep_by T g))) (section_of g s)) None (eq-eqb (rep_by T g s) s (own s)) ∙
      aimed_same (rep_by T g) own (section_of g s)) in
      let roots = map_fixed (rep_by T g) g.roots (λ j s _. own (get_or g.roots j s)) in
      λ i. record { sections = sections i; roots = roots i }
