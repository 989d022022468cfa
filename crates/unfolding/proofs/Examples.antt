-- The worked examples, by one test that is computed.
use Rattle.std.proofs.Common.{◌≡◌, Bool, true, ◌&&◌, eqb, List, [], ◌∷◌, refl}
use Rattle.std.specs.List.{AllByRecursion}
use Rattle.std.proofs.lemmas.Bool.{and_parts, eqb-true}
use Rattle.std.proofs.lemmas.Bool.Decides.{Decides-eqb}
use Rattle.model.specs.Graph.{count_of}
use Rattle.steps.specs.Below.{table}
use Rattle.unfolding.specs.Depth.{same_list}
use Rattle.unfolding.specs.Groups.{class_by, rep_by, rounds_by, present_count}
use Rattle.unfolding.specs.Reach.{reached, swept, dropped}
use Rattle.unfolding.specs.Sections.{rules, rep, rounds, folded, merged}
use Rattle.unfolding.specs.Examples.{Example, Gives, gives, examples, ExamplesHold}
use Rattle.unfolding.proofs.Same.{list_decides}

abbrev all_give : List Example → Bool
all_give [] = true
all_give (e ∷ es) = gives e && all_give es

computed : all_give examples ≡ true
unfolding class_by rep_by rounds_by reached rules
computed = refl

-- the tests of an example, each turned into its equation
given : (e : Example) → gives e ≡ true → Gives e
given e t =
    let g = e.graph in
    let a = and_parts (same_list eqb (table (rep g) (count_of g)) e.reps) _ t in
    let b = and_parts (eqb (present_count (folded g)) e.left) _ a.1 in
    let c = and_parts (eqb (merged g) e.merged) _ b.1 in
    let d = and_parts (eqb (rounds g) e.rounds) _ c.1 in
    let f = and_parts (same_list eqb (folded g).roots e.roots) _ d.1 in
    let h = and_parts (eqb (present_count (swept g)) e.kept) _ f.1 in
    record {
      reps = (list_decides eqb Decides-eqb (table (rep g) (count_of g)) e.reps).0 a.0;
      left = eqb-true (present_count (folded g)) e.left b.0;
      merged = eqb-true (merged g) e.merged c.0;
      rounds = eqb-true (rounds g) e.rounds d.0;
      roots = (list_decides eqb Decides-eqb (folded g).roots e.roots).0 f.0;
      kept = eqb-true (present_count (swept g)) e.kept h.0;
      dropped = eqb-true (dropped g) e.dropped h.1;
    }

all_given : (es : List Example) → all_give es ≡ true → AllByRecursion Gives es
all_given [] t = tt
all_given (e ∷ es) t =
    let parts = and_parts (gives e) (all_give es) t in
    (given e parts.0, all_given es parts.1)

pub examples_hold : ExamplesHold
examples_hold = all_given examples computed
