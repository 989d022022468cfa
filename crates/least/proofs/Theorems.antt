-- The theorems at what unfoldings tell by the rules.
use Rattle.std.proofs.Common.{◌≡◌, ℕ, Some, sym, refl, ◌∙◌, subst, arith}
use Rattle.model.specs.Graph.{Graph, root_of, root_count_of}
use Rattle.steps.proofs.Nth.{nth_there}
use Rattle.unfolding.specs.Reach.{root, swept}
use Rattle.unfolding.specs.Sections.{Agree, Alike, rules, rep, folded}
use Rattle.unfolding.proofs.Rules.{lawful_rules}
use Rattle.folding.proofs.Folded.{folded_roots, folded_root_count, folded_alike}
use Rattle.folding.proofs.Swept.{swept_alike}
use Rattle.folding.proofs.Theorems as folding
use Rattle.least.specs.Theorems.{AlikeRoots, Least, FinishLeast, OrdersAgree}
use Rattle.least.proofs.Least as least

pub is_least : Least
is_least p all apart h r = least.least rules lawful_rules p h r.count r.alike all apart

-- roots of the changed graph, each alike to the root that it was
RootsKept : Graph → Graph → Type 0
RootsKept p g = (j s : ℕ) → root_of g j ≡ Some s → (u : ℕ) × (root_of p j ≡ Some u) × Alike p u g s

kept_roots : (p g h : Graph) → root_count_of p ≡ root_count_of g → RootsKept p g → AlikeRoots g h → AlikeRoots p h
unfolding RootsKept
kept_roots p g h count kept r =
    record {
      count = count ∙ r.count;
      alike =
          λ j s t e f k.
          let was = nth_there p.roots g.roots j s count e in
          let now = kept j was.0 was.1 in
          let same : now.0 ≡ s = cc (now.1, e) in
          subst (λ (x : ℕ). Agree k p x g was.0) same (now.2 k) ∙ r.alike j was.0 t was.1 f k;
    }

fold_kept : (g : Graph) → RootsKept (folded g) g
unfolding RootsKept
fold_kept g j s e = (rep g s, folded_roots rules lawful_rules g j s e, folded_alike rules lawful_rules g s)

sweep_kept : (g : Graph) → RootsKept (swept g) g
unfolding RootsKept
sweep_kept g j s e = (s, e, swept_alike rules g (root j e))

fold_roots : (g h : Graph) → AlikeRoots g h → AlikeRoots (folded g) h
fold_roots g h = kept_roots (folded g) g h (folded_root_count rules lawful_rules g) (fold_kept g)

sweep_roots : (g h : Graph) → AlikeRoots g h → AlikeRoots (swept g) h
sweep_roots g h = kept_roots (swept g) g h refl (sweep_kept g)

pub finish_least : FinishLeast
finish_least g v h r =
    let done = folding.both_finish g v in (
      is_least (folded (swept g)) done.0.all_reached done.0.apart h (fold_roots (swept g) h (sweep_roots g h r)),
      is_least (swept (folded g)) done.1.all_reached done.1.apart h (sweep_roots (folded g) h (fold_roots g h r)),
    )

-- a graph's roots are alike to those of what it becomes

own_roots : (g : Graph) → AlikeRoots g g
own_roots g =
    record {
      count = refl;
      alike =
          λ j s t e f k.
          let same : s ≡ t = cc in
          subst (λ (x : ℕ). Agree k g s g x) same refl;
    }

turned : (g h : Graph) → AlikeRoots g h → AlikeRoots h g
turned g h r = record { count = sym r.count; alike = λ j s t e f k. sym (r.alike j t s f e k) }

pub orders_agree : OrdersAgree
orders_agree g v =
    let swept_first = turned (folded (swept g)) g (fold_roots (swept g) g (sweep_roots g g (own_roots g))) in
    let folded_first = turned (swept (folded g)) g (sweep_roots (folded g) g (fold_roots g g (own_roots g))) in
    let down = (finish_least g v (swept (folded g)) folded_first).0 in
    let up = (finish_least g v (folded (swept g)) swept_first).1 in
    omega arith
