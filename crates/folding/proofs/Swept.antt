-- The swept graph.
use Rattle.std.proofs.Common.{◌≡◌, ℕ, zero, suc, ◌+◌, ◌≤◌, Bool, true, false, cond, ◌&&◌, List, [], ◌∷◌, map, is_some, Some, None, Option, sym, refl, ap, ◌∙◌, subst, ⊎_elim, arith}
use Rattle.std.specs.List.{slice_get}
use Rattle.std.proofs.lemmas.Bool.{cases_lt, both_ways, cond-true, cond-false}
use Rattle.std.proofs.lemmas.List.{get_or_past}
use Rattle.model.specs.declared.Target.{Target}
use Rattle.model.specs.declared.Target.TheVariants.{Section, Outside}
use Rattle.model.specs.declared.Relocation.{Relocation}
use Rattle.model.specs.Graph.{Body, Graph, Present, section_of, count_of, told_relocation}
use Rattle.model.specs.Laws.{Valid}
use Rattle.model.proofs.Lawful.{lawful_under}
use Rattle.steps.specs.Below.{count_below}
use Rattle.steps.proofs.Count.{count_parts, count_same}
use Rattle.steps.proofs.Nth.{all_at, all_from}
use Rattle.unfolding.specs.Depth.{unfolding_at, shape_map}
use Rattle.unfolding.specs.Telling.{Telling, told_target, arm, arms_in, seen, look, AlikeBy}
use Rattle.unfolding.specs.Groups.{present, present_count, ApartBy}
use Rattle.unfolding.specs.Reach.{Reached, root, step, reached, swept_section, swept, dropped}
use Rattle.unfolding.specs.Sections.{AllReached}
use Rattle.unfolding.proofs.Shapes.{ToldRel, ArmsRel, shape_from}
use Rattle.unfolding.proofs.Marks.{present_bound}
use Rattle.folding.proofs.Rebuilt.{rebuilt_at, rebuilt_length, rebuilt_same}
use Rattle.folding.proofs.Reach.{reached_decides}

cond_none : (b : Bool) → cond {A = Option Body} b None None ≡ None
cond_none true = refl
cond_none false = refl

cond_some : (b : Bool) (o : Option Body) → (is_some o && b) ≡ is_some (cond b o None)
cond_some true None = refl
cond_some true (Some b) = refl
cond_some false None = refl
cond_some false (Some b) = refl

-- relocations related to themselves, where each section pointed at is

told_each : (R : ℕ → ℕ → Type 0) (x : Target) → ((t : ℕ) → x ≡ Section t → R t t) → ToldRel R (told_target x) (told_target x)
told_each R (Section t) h = h t refl
told_each R (Outside e) h = refl

list_each :
    (R : ℕ → ℕ → Type 0) (rs : List Relocation) →
    ((j : ℕ) (r : Relocation) (t : ℕ) → slice_get rs j ≡ Some r → r.target ≡ Section t → R t t) →
    ArmsRel R (map arm rs) (map arm rs)
list_each R [] h = tt
list_each R (r ∷ rs) h = (refl, told_each R r.target (λ t. h zero r t refl), list_each R rs (λ j. h (suc j)))

arms_each :
    (R : ℕ → ℕ → Type 0) (b : Option Body) →
    ((j : ℕ) (r : Relocation) (t : ℕ) → told_relocation b j ≡ Some r → r.target ≡ Section t → R t t) →
    ArmsRel R (arms_in b) (arms_in b)
arms_each R None h = tt
arms_each R (Some b) h = list_each R b.relocations h

module _ (g : Graph) where
  pub swept_at : (s : ℕ) → section_of (swept g) s ≡ swept_section g s (section_of g s)
  swept_at s = rebuilt_at (swept_section g) g (λ i. cond_none (reached g i)) s

  pub swept_count : count_of (swept g) ≡ count_of g
  swept_count = rebuilt_length (swept_section g) g

  pub reached_stays : {s : ℕ} → Reached g s → section_of (swept g) s ≡ section_of g s
  reached_stays {s} q =
      swept_at s ∙
      ⊎_elim
      (λ lt. cond-true (reached g s) (section_of g s) None ((reached_decides g s lt).1 q))
      (λ le.
      let none = get_or_past g.sections s None le in
      ap (swept_section g s) none ∙ (cond_none (reached g s) ∙ sym none))
      (cases_lt s (count_of g))

  pub swept_present : (s : ℕ) → Present (swept g) s → Present g s × Reached g s
  swept_present s p = go (reached g s) refl (subst (λ (o : Option Body). is_some o ≡ true) (swept_at s) p)
    where
      go : (b : Bool) → reached g s ≡ b → is_some (swept_section g s (section_of g s)) ≡ true → Present g s × Reached g s
      go true e h =
          let here : Present g s = subst (λ (o : Option Body). is_some o ≡ true) (cond-true (reached g s) (section_of g s) None e) h in
          (here, (reached_decides g s (present_bound g s here)).0 e)
      go false e h =
          absurd
          (both_ways
          (is_some (swept_section g s (section_of g s)))
          (ap (λ (o : Option Body). is_some o) (cond-false (reached g s) (section_of g s) None e))
          h)

  pub present_swept : {s : ℕ} → Reached g s → Present g s → Present (swept g) s
  present_swept q p = rw (reached_stays q) p

  -- everything present is reached

  pub reached_swept : {s : ℕ} → Reached g s → Reached (swept g) s
  reached_swept (root j e) = root j e
  reached_swept (step j q e f) = step j (reached_swept q) (ap (λ (o : Option Body). told_relocation o j) (reached_stays q) ∙ e) f

  pub swept_reached : AllReached (swept g)
  swept_reached s p = reached_swept (swept_present s p).1

  pub swept_counts : present_count g ≡ present_count (swept g) + dropped g
  swept_counts =
      let parts = count_parts (present g) (reached g) (count_of g) in
      let same : count_below (λ s. present g s && reached g s) (count_of g) ≡ present_count (swept g) =
      rw swept_count
      (count_same
      (λ s. present g s && reached g s)
      (present (swept g))
      (count_of g)
      (λ s _. cond_some (reached g s) (section_of g s) ∙ ap (λ (o : Option Body). is_some o) (sym (swept_at s)))) in
      omega arith

  -- the laws hold again

  pub swept_valid : Valid g → Valid (swept g)
  swept_valid v =
      record {
        few = subst (λ (x : ℕ). x ≤ 1024) (sym swept_count) v.few;
        few_roots = v.few_roots;
        bodies =
            λ s b e.
            let q = (swept_present s (ap (λ (o : Option Body). is_some o) e)).1 in
            let was : section_of g s ≡ Some b = sym (reached_stays q) ∙ e in
            lawful_under (Present g) (Present (swept g)) b
            (λ j r t f at p. present_swept (step j q (ap (λ (o : Option Body). told_relocation o j) was ∙ f) at) p)
            (v.bodies s b was);
        rooted =
            all_from
            (Present (swept g))
            g.roots
            (λ j s e. present_swept (root j e) (all_at (Present g) g.roots j s v.rooted e));
      }

  -- where everything present is reached the sweep changes nothing
  pub sweep_settled : AllReached g → swept g ≡ g
  sweep_settled all =
      let sections =
      rebuilt_same (swept_section g) g (λ i. cond_none (reached g i)) (λ s. kept s (section_of g s) refl) in
      λ i. record { sections = sections i; roots = g.roots }
    where
      kept : (s : ℕ) (o : Option Body) → section_of g s ≡ o → swept_section g s (section_of g s) ≡ section_of g s
      kept s None e = rw e (cond_none (reached g s))
      kept s (Some b) e =
          let here : Present g s = rw e in
          cond-true (reached g s) (section_of g s) None ((reached_decides g s (present_bound g s here)).1 (all s here))

module _ {M F : Type 0} (T : Telling M F) (g : Graph) where
  -- reached sections unfold as before
  pub swept_alike : {s : ℕ} → Reached g s → AlikeBy T (swept g) s g s
  swept_alike {s} q zero = ap (λ (o : Option Body). (seen T s o).mark) (reached_stays g q)
  swept_alike {s} q (suc k) =
      ap (λ (o : Option Body). shape_map (unfolding_at (look T (swept g)) k) (seen T s o)) (reached_stays g q) ∙
      shape_from
      (unfolding_at (look T (swept g)) k)
      (unfolding_at (look T g) k)
      (look T g s)
      (look T g s)
      (record {
        marks = refl;
        faces = refl;
        arms =
            arms_each
            (λ a b. unfolding_at (look T (swept g)) k a ≡ unfolding_at (look T g) k b)
            (section_of g s)
            (λ j r t e f. swept_alike (step j q e f) k);
      })

  pub sweep_keeps_apart : ApartBy T g → ApartBy T (swept g)
  sweep_keeps_apart apart s t p q e =
      let a = swept_present g s p in
      let b = swept_present g t q in
      apart s t a.0 b.0 (λ k. sym (swept_alike a.1 k) ∙ (e k ∙ swept_alike b.1 k))
