-- The lowest section of each group at a depth; a depth not above the count is stable; rounds.
use Rattle.std.proofs.Common.{◌≡◌, ℕ, suc, ◌<◌, ◌≤◌, Bool, true, false, ◌&&◌, eqb, Decides, sym, refl, ap, ◌∙◌, ⊎_elim, arith}
use Rattle.std.proofs.lemmas.Bool.{cases_Bool, cond-true, cond-false, eq-eqb, eqb-true, and_parts, and_from}
use Rattle.std.proofs.lemmas.Bool.Decides.{Decides-and, Decides-like, same_from_decides}
use Rattle.model.specs.Graph.{Graph, count_of}
use Rattle.steps.specs.Below.{all_below, least_below}
use Rattle.steps.proofs.Below.{all_decides, least_passes, least_least}
use Rattle.steps.proofs.Count.{rising}
use Rattle.unfolding.specs.Depth.{unfolding_at}
use Rattle.unfolding.specs.Telling.{Telling, Lawful, look, AgreeBy, AlikeBy, agrees_by}
use Rattle.unfolding.specs.Groups.{foldable, FoldAble, StableBy, same_test, stable_pair, stable_by, rounds_by, grouped, class_by, rep_by}
use Rattle.unfolding.proofs.Depths.{narrows}
use Rattle.unfolding.proofs.Marks.{fold_bound, agrees_decides, decided, stays_stable}

same_test_true : (a b : Bool) → same_test a b ≡ true → a ≡ b
same_test_true true b e = sym e
same_test_true false true e = e
same_test_true false false e = refl

same_test_from : (a b : Bool) → a ≡ b → same_test a b ≡ true
same_test_from true b e = sym e
same_test_from false true e = e
same_test_from false false e = refl

module _ {M F : Type 0} (T : Telling M F) (L : Lawful T) (g : Graph) where
  grouped_decides : (k s t : ℕ) → Decides (grouped T g k s t) (FoldAble g t × AgreeBy T k g t g s)
  grouped_decides k s t =
      Decides-and (foldable g t) (agrees_by T k g t g s) ((λ e. e), (λ e. e)) (agrees_decides T L k g t g s)

  pub class_fold : (k s : ℕ) → FoldAble g s → class_by T g k s ≡ least_below (grouped T g k s) s
  unfolding class_by
  class_fold k s h = cond-true (foldable g s) (least_below (grouped T g k s) s) s h

  pub class_itself : (k s : ℕ) → foldable g s ≡ false → class_by T g k s ≡ s
  unfolding class_by
  class_itself k s h = cond-false (foldable g s) (least_below (grouped T g k s) s) s h

  class_grouped : (k s : ℕ) → FoldAble g s → FoldAble g (class_by T g k s) × AgreeBy T k g (class_by T g k s) g s
  class_grouped k s h =
      rw (class_fold k s h)
      ((grouped_decides k s (least_below (grouped T g k s) s)).0
      (least_passes (grouped T g k s) s ((grouped_decides k s s).1 (h, refl))))

  pub class_foldable : (k s : ℕ) → FoldAble g s → FoldAble g (class_by T g k s)
  class_foldable k s h = (class_grouped k s h).0

  pub class_agrees : (k s : ℕ) → AgreeBy T k g (class_by T g k s) g s
  class_agrees k s =
      ⊎_elim
      (λ h. (class_grouped k s h).1)
      (λ h. ap (unfolding_at (look T g) k) (class_itself k s h))
      (cases_Bool (foldable g s))

  -- no member of the group is lower
  pub class_lowest : (k s t : ℕ) → FoldAble g s → FoldAble g t → AgreeBy T k g t g s → class_by T g k s ≤ t
  class_lowest k s t h f e = rw (class_fold k s h) (least_least (grouped T g k s) s t ((grouped_decides k s t).1 (f, e)))

  pub class_below : (k s : ℕ) → class_by T g k s ≤ s
  class_below k s =
      ⊎_elim
      (λ h. class_lowest k s s h h refl)
      (λ h. rw (class_itself k s h) (omega arith))
      (cases_Bool (foldable g s))

  -- one group, one class
  pub class_same : (k s t : ℕ) → FoldAble g s → FoldAble g t → AgreeBy T k g s g t → class_by T g k s ≡ class_by T g k t
  class_same k s t h f e =
      let up : class_by T g k s ≤ class_by T g k t =
      class_lowest k s (class_by T g k t) h (class_foldable k t f) (class_agrees k t ∙ sym e) in
      let down : class_by T g k t ≤ class_by T g k s =
      class_lowest k t (class_by T g k s) f (class_foldable k s h) (class_agrees k s ∙ e) in
      omega arith

  pub class_shares : (k s t : ℕ) → class_by T g k s ≡ class_by T g k t → AgreeBy T k g s g t
  class_shares k s t e = sym (class_agrees k s) ∙ (ap (unfolding_at (look T g) k) e ∙ class_agrees k t)

  pub class_class : (k s : ℕ) → class_by T g k (class_by T g k s) ≡ class_by T g k s
  class_class k s =
      ⊎_elim
      (λ h. class_same k (class_by T g k s) s (class_foldable k s h) h (class_agrees k s))
      (λ h. ap (class_by T g k) (class_itself k s h))
      (cases_Bool (foldable g s))

  -- the lowest of a group at depth k is the lowest of one at depth k + 1

  leader : ℕ → ℕ → Bool
  leader k s = foldable g s && eqb (class_by T g k s) s

  leads : (k s : ℕ) → FoldAble g s → class_by T g k s ≡ s → leader k s ≡ true
  unfolding leader
  leads k s h e = and_from (foldable g s) (eqb (class_by T g k s) s) h (eq-eqb (class_by T g k s) s e)

  led : (k s : ℕ) → leader k s ≡ true → FoldAble g s × (class_by T g k s ≡ s)
  unfolding leader
  led k s e =
      let parts = and_parts (foldable g s) (eqb (class_by T g k s) s) e in
      (parts.0, eqb-true (class_by T g k s) s parts.1)

  leader_stays : (k s : ℕ) → leader k s ≡ true → leader (suc k) s ≡ true
  leader_stays k s e =
      let h = led k s e in
      let low : class_by T g k s ≤ class_by T g (suc k) s =
      class_lowest
      k
      s
      (class_by T g (suc k) s)
      h.0
      (class_foldable (suc k) s h.0)
      (narrows (look T g) (look T g) k (class_by T g (suc k) s) s (class_agrees (suc k) s)) in
      let here : class_by T g k s ≡ s = h.1 in
      let high : class_by T g (suc k) s ≤ s = class_below (suc k) s in
      leads (suc k) s h.0 (omega arith)

  -- if no new leader comes, the groups stay
  still_stable : (k : ℕ) → ((s : ℕ) → s < count_of g → leader (suc k) s ≡ true → leader k s ≡ true) → StableBy T g k
  still_stable k still = record { finer = same; coarser = λ s t _ _. narrows (look T g) (look T g) k s t }
    where
      own : (s : ℕ) → FoldAble g s → class_by T g k (class_by T g (suc k) s) ≡ class_by T g (suc k) s
      own s h =
          (led k (class_by T g (suc k) s)
          (still
          (class_by T g (suc k) s)
          (fold_bound g (class_by T g (suc k) s) (class_foldable (suc k) s h))
          (leads (suc k) (class_by T g (suc k) s) (class_foldable (suc k) s h) (class_class (suc k) s)))).1

      lower : (s : ℕ) → AgreeBy T k g (class_by T g (suc k) s) g s
      lower s = narrows (look T g) (look T g) k (class_by T g (suc k) s) s (class_agrees (suc k) s)

      same : (s t : ℕ) → FoldAble g s → FoldAble g t → AgreeBy T k g s g t → AgreeBy T (suc k) g s g t
      same s t h f e =
          class_shares (suc k) s t
          (sym (own s h) ∙
          (class_same
          k
          (class_by T g (suc k) s)
          (class_by T g (suc k) t)
          (class_foldable (suc k) s h)
          (class_foldable (suc k) t f)
          (lower s ∙ (e ∙ sym (lower t))) ∙
          own t f))

  -- so some depth not above the count is stable
  pub some_stable : (k : ℕ) × (k ≤ count_of g) × StableBy T g k
  some_stable =
      let h = rising leader (count_of g) leader_stays in
      (h.0, h.1, still_stable h.0 h.2)

  pub count_stable : StableBy T g (count_of g)
  count_stable = stays_stable T L g some_stable.0 (count_of g) some_stable.2 some_stable.1

  -- the test of stability

  StablePair : ℕ → ℕ → ℕ → Type 0
  StablePair k s t =
      FoldAble g s → FoldAble g t → (AgreeBy T k g s g t → AgreeBy T (suc k) g s g t) × (AgreeBy T (suc k) g s g t → AgreeBy T k g s g t)

  pair_decides : (k s t : ℕ) → Decides (stable_pair T g k s t) (StablePair k s t)
  unfolding StablePair
  pair_decides k s t = (there, back (foldable g s) refl (foldable g t) refl)
    where
      there : stable_pair T g k s t ≡ true → StablePair k s t
      there e p q =
          let test : same_test (agrees_by T k g s g t) (agrees_by T (suc k) g s g t) ≡ true = rw (p, q) at e in
          let same = same_test_true (agrees_by T k g s g t) (agrees_by T (suc k) g s g t) test in (
            (λ a. (agrees_decides T L (suc k) g s g t).0 (sym same ∙ (agrees_decides T L k g s g t).1 a)),
            (λ a. (agrees_decides T L k g s g t).0 (same ∙ (agrees_decides T L (suc k) g s g t).1 a)),
          )

      back : (a : Bool) → foldable g s ≡ a → (b : Bool) → foldable g t ≡ b → StablePair k s t → stable_pair T g k s t ≡ true
      back true p true q c =
          let both = c p q in
          rw (p, q)
          (same_test_from (agrees_by T k g s g t) (agrees_by T (suc k) g s g t)
          (same_from_decides
          (agrees_by T k g s g t)
          (agrees_by T (suc k) g s g t)
          (agrees_decides T L k g s g t)
          (Decides-like (agrees_by T (suc k) g s g t) both.1 both.0 (agrees_decides T L (suc k) g s g t))))
      back true p false q c = rw (p, q)
      back false p b q c = rw p

  pub stable_decides : (k : ℕ) → Decides (stable_by T g k) (StableBy T g k)
  unfolding StablePair
  stable_decides k =
      Decides-like
      (stable_by T g k)
      (λ h.
      record {
        finer = λ s t p q. (h s (fold_bound g s p) t (fold_bound g t q) p q).0;
        coarser = λ s t p q. (h s (fold_bound g s p) t (fold_bound g t q) p q).1;
      })
      (λ c s _ t _ p q. (c.finer s t p q, c.coarser s t p q))
      (all_decides
      (λ s. all_below (stable_pair T g k s) (count_of g))
      (λ s. (t : ℕ) → t < count_of g → StablePair k s t)
      (λ s. all_decides (stable_pair T g k s) (StablePair k s) (pair_decides k s) (count_of g))
      (count_of g))

  -- rounds

  pub rounds_least : (k : ℕ) → StableBy T g k → rounds_by T g ≤ k
  unfolding rounds_by
  rounds_least k c = least_least (stable_by T g) (count_of g) k ((stable_decides k).1 c)

  pub rounds_bounded : rounds_by T g ≤ count_of g
  rounds_bounded = rounds_least (count_of g) count_stable

  pub rounds_stable : StableBy T g (rounds_by T g)
  unfolding rounds_by
  rounds_stable =
      (stable_decides (rounds_by T g)).0 (least_passes (stable_by T g) (count_of g) ((stable_decides (count_of g)).1 count_stable))

  -- the representative

  -- at any stable depth the class is the representative
  pub class_rep : (k s : ℕ) → StableBy T g k → class_by T g k s ≡ rep_by T g s
  unfolding rep_by
  class_rep k s c = ⊎_elim group (λ h. class_itself k s h ∙ sym (class_itself (count_of g) s h)) (cases_Bool (foldable g s))
    where
      group : FoldAble g s → class_by T g k s ≡ class_by T g (count_of g) s
      group h =
          let up : class_by T g k s ≤ class_by T g (count_of g) s =
          class_lowest k s (class_by T g (count_of g) s) h (class_foldable (count_of g) s h)
          (decided T L g (count_of g) count_stable (class_by T g (count_of g) s) s (class_agrees (count_of g) s) k) in
          let down : class_by T g (count_of g) s ≤ class_by T g k s =
          class_lowest (count_of g) s (class_by T g k s) h (class_foldable k s h)
          (decided T L g k c (class_by T g k s) s (class_agrees k s) (count_of g)) in
          omega arith

  pub rep_alike : (s : ℕ) → AlikeBy T g (rep_by T g s) g s
  unfolding rep_by
  rep_alike s = decided T L g (count_of g) count_stable (class_by T g (count_of g) s) s (class_agrees (count_of g) s)

  pub rep_foldable : (s : ℕ) → FoldAble g s → FoldAble g (rep_by T g s)
  unfolding rep_by
  rep_foldable s = class_foldable (count_of g) s

  pub rep_itself : (s : ℕ) → foldable g s ≡ false → rep_by T g s ≡ s
  unfolding rep_by
  rep_itself s = class_itself (count_of g) s

  pub rep_lowest : (s t : ℕ) → FoldAble g s → FoldAble g t → AlikeBy T g t g s → rep_by T g s ≤ t
  unfolding rep_by
  rep_lowest s t h f e = class_lowest (count_of g) s t h f (e (count_of g))

  pub rep_below : (s : ℕ) → rep_by T g s ≤ s
  unfolding rep_by
  rep_below s = class_below (count_of g) s

  pub rep_same : (s t : ℕ) → FoldAble g s → FoldAble g t → AlikeBy T g s g t → rep_by T g s ≡ rep_by T g t
  unfolding rep_by
  rep_same s t h f e = class_same (count_of g) s t h f (e (count_of g))

  pub rep_shares : (s t : ℕ) → rep_by T g s ≡ rep_by T g t → AlikeBy T g s g t
  rep_shares s t e k = sym (rep_alike s k) ∙ (ap (unfolding_at (look T g) k) e ∙ rep_alike t k)

  pub rep_rep : (s : ℕ) → rep_by T g (rep_by T g s) ≡ rep_by T g s
  unfolding rep_by
  rep_rep s = class_class (count_of g) s
