-- The worked examples, by one computation over the table.
use Rattle.std.proofs.Common.{◌≡◌, List, [], ◌∷◌, map, refl}
use Rattle.std.specs.List.{AllByRecursion}
use Rattle.unfolding.specs.Groups.{class_by, rep_by, rounds_by}
use Rattle.unfolding.specs.Reach.{reached}
use Rattle.unfolding.specs.Sections.{rules}
use Rattle.runs.specs.Examples.{Outcome, outcome_of, Example, examples, ExamplesHold}

abbrev given : Example → Outcome
given e = outcome_of e.below e.calls

abbrev wanted : Example → Outcome
wanted e = e.outcome

computed : map given examples ≡ map wanted examples
unfolding class_by rep_by rounds_by reached rules
computed = refl

all_same : {X Y : Type 0} (f h : X → Y) (xs : List X) → map f xs ≡ map h xs → AllByRecursion (λ x. f x ≡ h x) xs
all_same f h [] e = tt
all_same f h (x ∷ xs) e =
    let here : f x ≡ h x = cc in
    let rest : map f xs ≡ map h xs = cc in
    (here, all_same f h xs rest)

pub examples_hold : ExamplesHold
examples_hold = all_same given wanted examples computed
