-- The theorems at what unfoldings tell by the rules.
use Rattle.std.proofs.Common.{◌≡◌, ℕ, true, false, is_some, Some, None, Option, sym, refl, ◌∙◌}
use Rattle.std.proofs.lemmas.Bool.{both_ways}
use Rattle.model.specs.declared.Setting.{Setting}
use Rattle.model.specs.declared.Setting.TheVariants.{Foldable, Pinned}
use Rattle.model.specs.Graph.{Graph, section_of, Present}
use Rattle.unfolding.specs.Telling.{setting_of, look}
use Rattle.unfolding.specs.Groups.{may_fold, foldable}
use Rattle.unfolding.specs.Sections.{Mark, mark_of, rules}
use Rattle.unfolding.specs.Theorems.{MarksTell, Narrows, GroupsLast, GroupsSettle, DepthDecides, RoundsAreLeast, LowestRepresents}
use Rattle.unfolding.proofs.Depths.{narrows}
use Rattle.unfolding.proofs.Marks.{Kinds, both_absent, both_foldable, one_pinned, kinds_present, agree_kinds, stays_stable, decided}
use Rattle.unfolding.proofs.Classes.{some_stable, rounds_least, rounds_bounded, rounds_stable, rep_alike, rep_foldable, rep_lowest, rep_itself, rep_same, rep_shares}
use Rattle.unfolding.proofs.Rules.{lawful_rules}

pub depths_narrow : Narrows
depths_narrow k g s h t e = narrows (look rules g) (look rules h) k s t e

pub groups_last : GroupsLast
groups_last g k c m h =
    (stays_stable rules lawful_rules g k m c h, λ s t _ _ e. decided rules lawful_rules g k c s t e m)

pub groups_settle : GroupsSettle
groups_settle g = some_stable rules lawful_rules g

pub depth_decides : DepthDecides
depth_decides g k c s t e = decided rules lawful_rules g k c s t e

pub rounds_are_least : RoundsAreLeast
rounds_are_least g =
    record {
      stable = rounds_stable rules lawful_rules g;
      least = rounds_least rules lawful_rules g;
      bounded = rounds_bounded rules lawful_rules g;
    }

pub lowest_represents : LowestRepresents
lowest_represents g =
    record {
      alike = rep_alike rules lawful_rules g;
      member = rep_foldable rules lawful_rules g;
      lowest = rep_lowest rules lawful_rules g;
      itself = rep_itself rules lawful_rules g;
      joins = rep_same rules lawful_rules g;
      parts = rep_shares rules lawful_rules g;
    }

-- the marks

absent_foldable : (g : Graph) (s : ℕ) → section_of g s ≡ None → foldable g s ≡ false
absent_foldable g s e = rw e

fold_mark : (a : Option Setting) (s : ℕ) → may_fold a ≡ true → mark_of s a ≡ Mark.foldable
fold_mark None s e = cc
fold_mark (Some Foldable) s e = refl
fold_mark (Some Pinned) s e = cc

pub marks_tell : MarksTell
unfolding rules
marks_tell =
    record {
      pins = λ g s h t p f e. pins g s h t p f (agree_kinds rules lawful_rules 0 g s h t e);
      settings = λ g s h t e. settings g s h t (agree_kinds rules lawful_rules 0 g s h t e);
      presence = λ g s h t e. kinds_present g s h t (agree_kinds rules lawful_rules 0 g s h t e);
      joins = λ g s h t p q. fold_mark (setting_of g s) s p ∙ sym (fold_mark (setting_of h t) t q);
    }
  where
    pins : (g : Graph) (s : ℕ) (h : Graph) (t : ℕ) → Present g s → foldable g s ≡ false → Kinds g s h t → s ≡ t
    pins g s h t p f (both_absent a b) = absurd (both_ways (is_some (section_of g s)) (rw a) p)
    pins g s h t p f (both_foldable a b) = absurd (both_ways (foldable g s) f a)
    pins g s h t p f (one_pinned same a b c d) = same

    settings : (g : Graph) (s : ℕ) (h : Graph) (t : ℕ) → Kinds g s h t → foldable g s ≡ foldable h t
    settings g s h t (both_absent a b) = absent_foldable g s a ∙ sym (absent_foldable h t b)
    settings g s h t (both_foldable a b) = a ∙ sym b
    settings g s h t (one_pinned same a b c d) = c ∙ sym d
