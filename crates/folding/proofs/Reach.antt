-- The test `reached` decides which sections a chain from a root reaches.
use Rattle.std.proofs.Common.{◌≡◌, ℕ, zero, suc, ◌<◌, ◌≤◌, Bool, true, false, ◌&&◌, eqb, List, [], ◌∷◌, is_some, Some, None, Decides, Option, sym, refl, ap, ◌∙◌, subst, ⊎_elim, arith}
use Rattle.std.specs.List.{slice_get}
use Rattle.std.proofs.lemmas.Bool.{cases_lt, both_ways, or_cases, or_left, or_right, and_parts, and_from, eqb-true, eq-eqb}
use Rattle.model.specs.declared.Target.{Target}
use Rattle.model.specs.declared.Target.TheVariants.{Section, Outside}
use Rattle.model.specs.declared.Relocation.{Relocation}
use Rattle.model.specs.Graph.{Body, Graph, Present, section_of, count_of, told_relocation, relocation_of}
use Rattle.steps.specs.Below.{some_below}
use Rattle.steps.proofs.Below.{some_decides, table_at, table_past}
use Rattle.steps.proofs.Count.{rising}
use Rattle.unfolding.specs.Reach.{Reached, root, step, has, points_at, leads, leads_in, calls, marked, marked_next, marks, reached}
use Rattle.unfolding.proofs.Marks.{present_bound}

-- the tests on lists, by places

has_nth : (xs : List ℕ) (s : ℕ) → has xs s ≡ true → (j : ℕ) × (slice_get xs j ≡ Some s)
has_nth [] s e = let z : ◌≡◌ {A = ℕ} 0 1 = cc in absurd (omega arith)
has_nth (x ∷ xs) s e =
    ⊎_elim
    (λ h. (zero, ap {B = Option ℕ} Some (eqb-true x s h)))
    (λ h.
    let rest = has_nth xs s h in
    (suc rest.0, rest.1))
    (or_cases (eqb x s) (has xs s) e)

nth_has : (xs : List ℕ) (s j : ℕ) → slice_get xs j ≡ Some s → has xs s ≡ true
nth_has [] s j e = let z : ◌≡◌ {A = ℕ} 0 1 = cc in absurd (omega arith)
nth_has (x ∷ xs) s zero e = or_left (eqb x s) (has xs s) (eq-eqb x s cc)
nth_has (x ∷ xs) s (suc j) e = or_right (eqb x s) (has xs s) (nth_has xs s j e)

points_section : (t : Target) (s : ℕ) → points_at t s ≡ true → t ≡ Section s
points_section (Section t) s e = ap {B = Target} Section (eqb-true t s e)
points_section (Outside x) s e = let z : ◌≡◌ {A = ℕ} 0 1 = cc in absurd (omega arith)

section_points : (t : Target) (s : ℕ) → t ≡ Section s → points_at t s ≡ true
section_points (Section t) s e = eq-eqb t s cc
section_points (Outside x) s e = let z : ◌≡◌ {A = ℕ} 0 1 = cc in absurd (omega arith)

leads_nth : (rs : List Relocation) (s : ℕ) → leads rs s ≡ true → (j : ℕ) × (r : Relocation) × (slice_get rs j ≡ Some r) × (r.target ≡ Section s)
leads_nth [] s e = let z : ◌≡◌ {A = ℕ} 0 1 = cc in absurd (omega arith)
leads_nth (r ∷ rs) s e =
    ⊎_elim
    (λ h. (zero, r, refl, points_section r.target s h))
    (λ h.
    let rest = leads_nth rs s h in
    (suc rest.0, rest.1, rest.2, rest.3))
    (or_cases (points_at r.target s) (leads rs s) e)

nth_leads : (rs : List Relocation) (s j : ℕ) (r : Relocation) → slice_get rs j ≡ Some r → r.target ≡ Section s → leads rs s ≡ true
nth_leads [] s j r e f = let z : ◌≡◌ {A = ℕ} 0 1 = cc in absurd (omega arith)
nth_leads (x ∷ rs) s zero r e f =
    let here : x ≡ r = cc in
    or_left (points_at x.target s) (leads rs s) (section_points x.target s (ap (λ (w : Relocation). w.target) here ∙ f))
nth_leads (x ∷ rs) s (suc j) r e f = or_right (points_at x.target s) (leads rs s) (nth_leads rs s j r e f)

calls_step :
    (b : Option Body) (s : ℕ) → leads_in b s ≡ true → (j : ℕ) × (r : Relocation) × (told_relocation b j ≡ Some r) × (r.target ≡ Section s)
calls_step None s e = let z : ◌≡◌ {A = ℕ} 0 1 = cc in absurd (omega arith)
calls_step (Some b) s e = leads_nth b.relocations s e

step_calls :
    (b : Option Body) (s j : ℕ) (r : Relocation) → told_relocation b j ≡ Some r → r.target ≡ Section s → leads_in b s ≡ true
step_calls None s j r e f = let z : ◌≡◌ {A = ℕ} 0 1 = cc in absurd (omega arith)
step_calls (Some b) s j r e f = nth_leads b.relocations s j r e f

-- a section with a relocation is present
pub relocation_present : (g : Graph) (s j : ℕ) (r : Relocation) → relocation_of g s j ≡ Some r → Present g s
relocation_present g s j r e = go (section_of g s) e
  where
    go : (b : Option Body) → told_relocation b j ≡ Some r → is_some b ≡ true
    go None f = let z : ◌≡◌ {A = ℕ} 0 1 = cc in absurd (omega arith)
    go (Some b) f = refl

module _ (g : Graph) where
  -- marked after k rounds
  abbrev within : ℕ → ℕ → Bool
  within k s = marked (marks g k) s

  within_zero : (s : ℕ) → s < count_of g → within zero s ≡ has g.roots s
  within_zero s h = table_at (has g.roots) (count_of g) s false h

  within_next : (k s : ℕ) → s < count_of g → within (suc k) s ≡ marked_next g (marks g k) s
  within_next k s h = table_at (marked_next g (marks g k)) (count_of g) s false h

  within_bound : (k s : ℕ) → within k s ≡ true → s < count_of g
  within_bound k s e = ⊎_elim (λ lt. lt) (λ le. absurd (both_ways (within k s) (past k le) e)) (cases_lt s (count_of g))
    where
      past : (k : ℕ) → count_of g ≤ s → within k s ≡ false
      past zero h = table_past (has g.roots) (count_of g) s false h
      past (suc k) h = table_past (marked_next g (marks g k)) (count_of g) s false h

  called_decides : (k s : ℕ) → Decides (some_below (λ t. marked (marks g k) t && calls g t s) (count_of g)) ((t : ℕ) × (t < count_of g) × ((within k t && calls g t s) ≡ true))
  called_decides k s =
      some_decides (λ t. within k t && calls g t s) (λ t. (within k t && calls g t s) ≡ true) (λ t. ((λ e. e), (λ e. e))) (count_of g)

  within_stays : (k s : ℕ) → within k s ≡ true → within (suc k) s ≡ true
  within_stays k s e =
      within_next k s (within_bound k s e) ∙
      or_left (within k s) (some_below (λ t. marked (marks g k) t && calls g t s) (count_of g)) e

  within_later : (k m s : ℕ) → k ≤ m → within k s ≡ true → within m s ≡ true
  within_later k zero s h e =
      let at : k ≡ zero = omega arith in
      subst (λ (x : ℕ). within x s ≡ true) at e
  within_later k (suc m) s h e =
      ⊎_elim
      (λ lt. within_stays m s (within_later k m s (omega arith) e))
      (λ le.
      let at : k ≡ suc m = omega arith in
      subst (λ (x : ℕ). within x s ≡ true) at e)
      (cases_lt k (suc m))

  within_step : (k s t : ℕ) → t < count_of g → within k s ≡ true → calls g s t ≡ true → within (suc k) t ≡ true
  within_step k s t h e f =
      within_next k t h ∙
      or_right
      (within k t)
      (some_below (λ u. marked (marks g k) u && calls g u t) (count_of g))
      ((called_decides k t).1 (s, within_bound k s e, and_from (within k s) (calls g s t) e f))

  -- what is marked is reached
  within_reached : (k s : ℕ) → within k s ≡ true → Reached g s
  within_reached zero s e =
      let at = has_nth g.roots s (sym (within_zero s (within_bound zero s e)) ∙ e) in
      root at.0 at.1
  within_reached (suc k) s e =
      ⊎_elim
      (λ h. within_reached k s h)
      (λ h.
      let from = (called_decides k s).0 h in
      let both = and_parts (within k from.0) (calls g from.0 s) from.2 in
      let at = calls_step (section_of g from.0) s both.1 in
      step at.0 (within_reached k from.0 both.0) at.2 at.3)
      (or_cases
      (within k s)
      (some_below (λ t. marked (marks g k) t && calls g t s) (count_of g))
      (sym (within_next k s (within_bound (suc k) s e)) ∙ e))

  -- what is reached is marked, once a round adds nothing
  reached_within :
      (k : ℕ) →
      ((s : ℕ) → s < count_of g → within (suc k) s ≡ true → within k s ≡ true) →
      {s : ℕ} →
      Reached g s →
      s < count_of g →
      within k s ≡ true
  reached_within k still (root j {s} e) h = within_later zero k s (omega arith) (within_zero s h ∙ nth_has g.roots s j e)
  reached_within k still (step {s} j {t} {r} q e f) h =
      still t h
      (within_step k s t h
      (reached_within k still q (present_bound g s (relocation_present g s j r e)))
      (step_calls (section_of g s) t j r e f))

  pub reached_decides : (s : ℕ) → s < count_of g → Decides (reached g s) (Reached g s)
  unfolding reached
  reached_decides s h =
      let found = rising within (count_of g) within_stays in (
        within_reached (count_of g) s,
        (λ q. within_later found.0 (count_of g) s found.1 (reached_within found.0 found.2 q h)),
      )
