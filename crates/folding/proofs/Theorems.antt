-- The theorems at what unfoldings tell by the rules.
use Rattle.std.proofs.Common.{refl, subst}
use Rattle.model.specs.Graph.{Graph, Present}
use Rattle.unfolding.specs.Reach.{swept}
use Rattle.unfolding.specs.Sections.{rules, folded, Apart, AllReached}
use Rattle.unfolding.proofs.Rules.{lawful_rules}
use Rattle.folding.specs.Theorems.{FoldFolds, FoldValid, ReachDecided, SweepSweeps, SweepValid, FoldKeepsReached, SweepKeepsApart, Settled, Finished, BothFinish}
use Rattle.folding.proofs.Folded as fold
use Rattle.folding.proofs.Swept as sweep
use Rattle.folding.proofs.Reach.{reached_decides}
use Rattle.folding.proofs.Both as both

pub fold_folds : FoldFolds
fold_folds g =
    record {
      count = fold.folded_count rules lawful_rules g;
      stays = λ s p e. subst (Present (folded g)) e (fold.present_folded rules lawful_rules g s p);
      goes = fold.folded_present rules lawful_rules g;
      lowest = fold.folded_lowest rules lawful_rules g;
      unfolds = fold.folded_alike rules lawful_rules g;
      root_count = fold.folded_root_count rules lawful_rules g;
      roots = fold.folded_roots rules lawful_rules g;
      apart = fold.folded_apart rules lawful_rules g;
      counts = fold.folded_counts rules lawful_rules g;
    }

pub fold_valid : FoldValid
fold_valid g v = fold.folded_valid rules lawful_rules g v

pub reach_decided : ReachDecided
reach_decided g s h = reached_decides g s h

pub sweep_sweeps : SweepSweeps
sweep_sweeps g =
    record {
      count = sweep.swept_count g;
      stays = λ s q. sweep.reached_stays g q;
      goes = sweep.swept_present g;
      unfolds = λ s q. sweep.swept_alike rules g q;
      roots = refl;
      all_reached = sweep.swept_reached g;
      counts = sweep.swept_counts g;
    }

pub sweep_valid : SweepValid
sweep_valid g v = sweep.swept_valid g v

pub fold_keeps_reached : FoldKeepsReached
fold_keeps_reached g v all = both.fold_keeps_reached rules lawful_rules g v all

pub sweep_keeps_apart : SweepKeepsApart
sweep_keeps_apart g apart = sweep.sweep_keeps_apart rules g apart

fold_apart : (g : Graph) → Apart (folded g)
fold_apart g = fold.folded_apart rules lawful_rules g

pub settled : Settled
settled =
    record {
      fold = λ g apart. fold.fold_settled rules lawful_rules g apart;
      sweep = λ g all. sweep.sweep_settled g all;
      fold_twice = λ g. fold.fold_settled rules lawful_rules (folded g) (fold_apart g);
      sweep_twice = λ g. sweep.sweep_settled (swept g) (sweep.swept_reached g);
    }

finished : (g : Graph) → Apart g → AllReached g → Finished g
finished g apart all =
    record {
      apart = apart;
      all_reached = all;
      fold = fold.fold_settled rules lawful_rules g apart;
      sweep = sweep.sweep_settled g all;
    }

pub both_finish : BothFinish
both_finish g v = (
  finished (folded (swept g)) (fold_apart (swept g)) (fold_keeps_reached (swept g) (sweep_valid g v) (sweep.swept_reached g)),
  finished (swept (folded g)) (sweep_keeps_apart (folded g) (fold_apart g)) (sweep.swept_reached (folded g)),
)
