-- Folding keeps reachedness.
use Rattle.std.proofs.Common.{◌≡◌, ℕ, length, Some, None, Option, sym, refl, ap, ◌∙◌, subst, arith}
use Rattle.std.specs.Option.{option_map}
use Rattle.model.specs.declared.Target.{Target}
use Rattle.model.specs.declared.Target.TheVariants.{Section}
use Rattle.model.specs.declared.Relocation.{Relocation}
use Rattle.model.specs.Graph.{Body, Graph, Present, section_of, told_relocation, relocation_of}
use Rattle.model.specs.Laws.{Aimed, LawfulRelocation, Valid}
use Rattle.steps.proofs.Nth.{nth_map_some, all_at}
use Rattle.unfolding.specs.Telling.{Telling, Lawful}
use Rattle.unfolding.specs.Groups.{rep_by, aimed_at, aimed, moved, folded_by}
use Rattle.unfolding.specs.Reach.{Reached, root, step}
use Rattle.unfolding.specs.Sections.{AllReached}
use Rattle.unfolding.proofs.Classes.{rep_alike, rep_rep}
use Rattle.folding.proofs.Folded.{folded_stays, folded_roots, folded_present, rep_joins}
use Rattle.folding.proofs.Follow.{follow}

-- relocation j of a section whose relocations were put elsewhere
pub aimed_relocation :
    (f : Target → Target) (b : Option Body) (j : ℕ) (r : Relocation) →
    told_relocation b j ≡ Some r →
    told_relocation (option_map (aimed f) b) j ≡ Some (aimed_at f r)
aimed_relocation f None j r e = let z : ◌≡◌ {A = ℕ} 0 1 = cc in absurd (omega arith)
aimed_relocation f (Some b) j r e = nth_map_some (aimed_at f) b.relocations j r e

-- a relocation of a lawful graph points at a present section
pub target_present :
    (g : Graph) → Valid g → (s j : ℕ) (r : Relocation) (t : ℕ) → relocation_of g s j ≡ Some r → r.target ≡ Section t → Present g t
target_present g v s j r t e f = go (section_of g s) refl e
  where
    go : (o : Option Body) → section_of g s ≡ o → told_relocation o j ≡ Some r → Present g t
    go None h k = let z : ◌≡◌ {A = ℕ} 0 1 = cc in absurd (omega arith)
    go (Some b) h k =
        subst (Aimed (Present g)) f
        (all_at (LawfulRelocation (Present g) (length b.bytes)) b.relocations j r (v.bodies s b h).relocations k).aimed

module _ {M F : Type 0} (T : Telling M F) (L : Lawful T) (g : Graph) (v : Valid g) where
  pub reached_rep : {s : ℕ} → Reached g s → Reached (folded_by T g) (rep_by T g s)
  reached_rep (root j {s} e) = root j (folded_roots T L g j s e)
  reached_rep (step {s} j {t} {r} q e f) =
      let there = follow T g s g (rep_by T g s) (λ k. sym (rep_alike T L g s k)) j r t e f in
      let place : relocation_of (folded_by T g) (rep_by T g s) j ≡ Some (aimed_at (moved (rep_by T g)) there.relocation) =
      ap (λ (o : Option Body). told_relocation o j) (folded_stays T L g (rep_by T g s) (rep_rep T L g s)) ∙
      aimed_relocation (moved (rep_by T g)) (section_of g (rep_by T g s)) j there.relocation there.place in
      let same : rep_by T g there.number ≡ rep_by T g t =
      sym (rep_joins T L g t there.number (target_present g v s j r t e f) there.alike) in
      step j (reached_rep q) place (ap (moved (rep_by T g)) there.target ∙ ap {B = Target} Section same)

  pub fold_keeps_reached : AllReached g → AllReached (folded_by T g)
  fold_keeps_reached all s p =
      let own = folded_present T L g s p in
      subst (Reached (folded_by T g)) own.0 (reached_rep (all s own.1))
