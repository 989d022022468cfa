-- Each present section is followed into the other graph, from the root along the same relocations; no two come to the same.
use Rattle.std.proofs.Common.{◌≡◌, ℕ, ◌≤◌, Some, sym, ◌∙◌}
use Rattle.model.specs.Graph.{Graph, Present, count_of, root_of, root_count_of}
use Rattle.steps.proofs.Count.{count_injection}
use Rattle.steps.proofs.Nth.{nth_there}
use Rattle.unfolding.specs.Telling.{Telling, Lawful, AlikeBy}
use Rattle.unfolding.specs.Groups.{present, present_count, ApartBy}
use Rattle.unfolding.specs.Reach.{Reached, root, step}
use Rattle.unfolding.specs.Sections.{AllReached}
use Rattle.unfolding.proofs.Marks.{kinds_present, present_bound, agree_kinds}
use Rattle.folding.proofs.Follow.{follow}

-- alike sections are present together
pub alike_present :
    {M F : Type 0} (T : Telling M F) (L : Lawful T) (g : Graph) (s : ℕ) (h : Graph) (t : ℕ) → AlikeBy T g s h t → Present g s → Present h t
alike_present T L g s h t e p = kinds_present g s h t (agree_kinds T L 0 g s h t (e 0)) p

module _
    {M F : Type 0}
    (T : Telling M F)
    (L : Lawful T)
    (p h : Graph)
    (count : root_count_of p ≡ root_count_of h)
    (alike : (j s t : ℕ) → root_of p j ≡ Some s → root_of h j ≡ Some t → AlikeBy T p s h t) where
  pub image : {s : ℕ} → Reached p s → (t : ℕ) × AlikeBy T p s h t
  image (root j {s} e) =
      let there = nth_there p.roots h.roots j s count e in
      (there.0, alike j s there.0 e there.1)
  image (step {s} j {t} {r} q e f) =
      let from = image q in
      let there = follow T p s h from.0 from.1 j r t e f in
      (there.number, there.alike)

  pub least : AllReached p → ApartBy T p → present_count p ≤ present_count h
  least all apart =
      count_injection
      (λ s t. Present p s × AlikeBy T p s h t)
      (λ s s' t a b. apart s s' a.0 b.0 (λ k. a.1 k ∙ sym (b.1 k)))
      (present p)
      (count_of p)
      (present h)
      (count_of h)
      (λ s _ here.
      let to = image (all s here) in
      let there = alike_present T L p s h to.0 to.1 here in
      (to.0, present_bound h to.0 there, there, (here, to.1)))
