-- The table of a graph after a sweep and a fold reads back, with roots as they were, and is least.
use Rattle.std.proofs.Common.{◌≡◌, ℕ, ◌≤◌, List, [], ◌∷◌, None, refl, sym, subst}
use Rattle.model.specs.Graph.{Graph}
use Rattle.model.specs.Laws.{Valid}
use Rattle.unfolding.specs.Groups.{present_count}
use Rattle.unfolding.specs.Sections.{Agree}
use Rattle.least.specs.Theorems.{AlikeRoots}
use Rattle.layout.specs.Layout.{text_of}
use Rattle.layout.specs.Reading.{fault_of, graph_of}
use Rattle.layout.proofs.Texts.{verdict_stands}
use Rattle.calls.specs.declared.Call.{Call}
use Rattle.calls.specs.declared.Call.TheVariants.{Sweep, Fold}
use Rattle.runs.specs.Promise.{Promise}
use Rattle.runs.proofs.Promised.{promise_stands}
use Rattle.runs.proofs.Telling.{pile_tells}
use Rattle.refolding.specs.Printed.{refolded}
use Rattle.refolding.specs.Reduced.{Reduced}

-- the calls that are made
abbrev both : List Call
both = Sweep ∷ Fold ∷ []

-- neither changes the drawn graph, so that the promise speaks of the roots as they were
roots_kept : (g : Graph) → Promise g both → AlikeRoots g (refolded g)
roots_kept g p =
    record {
      count = sym p.as_many;
      alike =
          λ j s t e f k.
          let kept = p.roots j s e in
          let same : kept.place ≡ t = cc (kept.rooted, f) in
          subst (λ (x : ℕ). Agree k g s (refolded g) x) same (sym (kept.alike k));
    }

reduced : (g : Graph) → Valid g → (u : List ℕ) → u ≡ text_of (refolded g) → Reduced g u
reduced g v u e =
    let p = promise_stands g v both in
    let read = (verdict_stands u).table (refolded g) (pile_tells g v both).valid e in
    let back : refolded g ≡ graph_of u = sym read.1 in
    record {
      reads_back = read.0;
      roots = subst (AlikeRoots g) back (roots_kept g p);
      least = λ h w r. subst (λ (x : Graph). present_count x ≤ present_count h) back (p.least refl refl h w r);
    }

-- the table that is printed of an accepted text
pub reduces : (t u : List ℕ) → fault_of t ≡ None → u ≡ text_of (refolded (graph_of t)) → Reduced (graph_of t) u
reduces t u none e = reduced (graph_of t) ((verdict_stands t).accepted none).0 u e
