-- What a pile tells of its sections after any calls, and what a sweep and a fold do then.
use Rattle.std.proofs.Common.{◌≡◌, ℕ, Bool, false, List, sym, refl, ap, ◌∙◌, subst, inl, inr, ⊎_elim}
use Rattle.std.proofs.lemmas.Bool.{cases_Bool, and_from}
use Rattle.model.specs.Graph.{Graph, Present}
use Rattle.unfolding.specs.Groups.{present, present_count}
use Rattle.unfolding.specs.Reach.{reached, swept, dropped}
use Rattle.unfolding.specs.Sections.{rules, rep, rounds, folded, merged}
use Rattle.unfolding.proofs.Rules.{lawful_rules}
use Rattle.unfolding.proofs.Classes.{rep_alike, rep_foldable, rep_lowest, rep_itself}
use Rattle.unfolding.proofs.Theorems.{rounds_are_least}
use Rattle.folding.proofs.Theorems.{sweep_sweeps, fold_folds}
use Rattle.calls.specs.declared.Slot.{Slot}
use Rattle.calls.specs.declared.Slot.TheVariants.{Swept}
use Rattle.calls.specs.declared.Call.TheVariants.{Sweep, Fold}
use Rattle.calls.specs.declared.Place.{Place}
use Rattle.calls.specs.declared.Place.TheVariants.{At, Swept as Nowhere}
use Rattle.runs.specs.State.{State, slot_of, step, after, found_at}
use Rattle.runs.specs.Promise.{Placed}
use Rattle.runs.specs.Laws.{Tells, PileTells, SweepDoes, FoldDoes, ClosesRight}
use Rattle.runs.proofs.Slots.{fresh_at, found_untouched, next_place}
use Rattle.runs.proofs.Invariant.{Invariant, present_untouched, drawn_present, ends, ending, found_present}
use Rattle.runs.proofs.Closing.{next_found}
use Rattle.runs.proofs.Places.{place_absent, place_beyond, placed_found, nowhere_found, found_placed, found_nowhere}
use Rattle.runs.proofs.Steps.{swept_fate, own, joined_to, folded_fate, reached_yes, reached_is, swept_present, sweeps_kept, sweeps_gone, folds_rep, after_keeps}

module _ (g : Graph) (st : State) (a b : Bool) (i : Invariant g st a b) where
  pub tells : Tells g st
  tells =
      record {
        valid = i.valid;
        drawn_valid = i.drawn_valid;
        count = i.count;
        drawn_count = i.drawn_count;
        presence = i.presence;
        slots = i.long;
        blank = λ s n. i.blank s (missing s n);
        unchanged = λ e. (i.unchanged e).0;
        own =
            λ e s p.
            found_placed st s s (below s p)
            (found_untouched st.slots s (ap (λ (x : List Slot). slot_of x s) (i.unchanged e).1 ∙ fresh_at 1024 s));
        beyond = λ s h. place_beyond st s (rw i.drawn_count h);
        absent =
            λ s h n.
            place_absent st s (rw i.drawn_count h) (missing s n);
        somewhere =
            λ s p.
            ⊎_elim
            (λ r. inl (r.0, found_placed st s r.0 (below s p) r.1.found))
            (λ e. inr (found_nowhere st s (below s p) e))
            (ends i s (below s p));
        stands = λ s. (
          λ p. found_placed st s s (drawn_present i s p) (found_untouched st.slots s (present_untouched i s p)),
          λ e. let f = placed_found st s s e in found_present i s s f.here f.at,
        );
        placed = λ s p e. let f = placed_found st s p e in found_present i s p f.here f.at;
        lower = λ s p e. let f = placed_found st s p e in (ending i s p f.here f.at).below;
        alike = λ s p e. let f = placed_found st s p e in i.alike s p f.here f.at;
      }
    where
      below : (s : ℕ) → Present g s → Present st.drawn s
      below s p = i.presence s ∙ p

      missing : (s : ℕ) → (Present g s → ⊥) → present st.drawn s ≡ false
      missing s n =
          ⊎_elim (λ p. absurd (n (sym (i.presence s) ∙ p))) (λ p. p) (cases_Bool (present st.drawn s))

  -- where a section is found after a sweep, from where it was found before

  swept_found : (s : ℕ) (x : Place) → found_at st.slots s ≡ x → found_at (step st Sweep).slots s ≡ next_place (step st Sweep).slots x
  swept_found s x e =
      next_found g st a b i (reached st.graph) (λ _. Swept) (swept_fate st.graph) s ∙
      ap (next_place (step st Sweep).slots) e

  pub sweep_does : SweepDoes st
  sweep_does =
      record {
        drawn = refl;
        closes = refl;
        stays = λ s. (
          (sweep_sweeps st.graph).goes s,
          λ p.
              swept_present st.graph s ∙
              and_from (present st.graph s) (reached st.graph s) p.0 (reached_yes st.graph s p.0 p.1),
        );
        keeps =
            λ s p e q.
            let f = placed_found st s p e in
            found_placed (step st Sweep) s p f.here
            (swept_found s (At p) f.at ∙ sweeps_kept g st a b i p (found_present i s p f.here f.at) q);
        drops =
            λ s p e n.
            let f = placed_found st s p e in
            let here = found_present i s p f.here f.at in
            found_nowhere (step st Sweep) s f.here
            (swept_found s (At p) f.at ∙
            sweeps_gone g st a b i p here
            (⊎_elim (λ r. absurd (n (reached_is st.graph p here r))) (λ r. r) (cases_Bool (reached st.graph p))));
        gone =
            λ s e.
            let f = nowhere_found st s e in
            found_nowhere (step st Sweep) s f.here (swept_found s Nowhere f.at);
        present = present_count (swept st.graph);
        dropped = dropped st.graph;
        answers = refl;
        after_it = refl;
        before_it = (sweep_sweeps st.graph).counts;
      }

  -- and after a fold

  folded_found : (s : ℕ) (x : Place) → found_at st.slots s ≡ x → found_at (step st Fold).slots s ≡ next_place (step st Fold).slots x
  folded_found s x e =
      next_found g st a b i (own st.graph) (joined_to st.graph) (folded_fate st.graph) s ∙
      ap (next_place (step st Fold).slots) e

  rep_placed : (s p : ℕ) → Placed st s p → Placed (step st Fold) s (rep st.graph p)
  rep_placed s p e =
      let f = placed_found st s p e in
      found_placed (step st Fold) s (rep st.graph p) f.here
      (folded_found s (At p) f.at ∙ folds_rep g st a b i p (found_present i s p f.here f.at))

  pub fold_does : FoldDoes st
  fold_does =
      record {
        drawn = refl;
        closes = refl;
        lowest = λ s p e h. (
          rep st.graph p,
          rep_placed s p e,
          rep_foldable rules lawful_rules st.graph p h,
          rep_alike rules lawful_rules st.graph p,
          λ t f q. rep_lowest rules lawful_rules st.graph p t h f q,
        );
        pinned =
            λ s p e h. subst (λ (x : ℕ). Placed (step st Fold) s x) (rep_itself rules lawful_rules st.graph p h) (rep_placed s p e);
        gone =
            λ s e.
            let f = nowhere_found st s e in
            found_nowhere (step st Fold) s f.here (folded_found s Nowhere f.at);
        present = present_count (folded st.graph);
        merged = merged st.graph;
        rounds = rounds st.graph;
        answers = refl;
        after_it = refl;
        before_it = (fold_folds st.graph).counts;
        stable = (rounds_are_least st.graph).stable;
        least = (rounds_are_least st.graph).least;
      }

pub pile_tells : PileTells
pile_tells g v calls = tells g (after g calls) _ _ (after_keeps g v calls)

pub closes_right : ClosesRight
closes_right g v calls = (
  sweep_does g (after g calls) _ _ (after_keeps g v calls),
  fold_does g (after g calls) _ _ (after_keeps g v calls),
)
