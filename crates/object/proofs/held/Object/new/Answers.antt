use Rattle.std.proofs.Common.{◌≡◌, List, ℕ, [], vec_items, sym, subst}
use Rattle.rules.specs.Notes.{Noted}
use Rattle.object.proofs.Holding.{none_held, none_means}
use Rattle.object.proofs.held.Object.new.Goals as goal

pub invariant_of-result : goal.invariant_of-result
invariant_of-result c =
    let e : vec_items c.new.result ≡ [] = c.new.ensures.items
    in record { met = none_held _ e; noted = subst (λ (b : List ℕ). Noted b c.no_notes.result) (sym e) c.no_notes.ensures }

pub returns : goal.returns
returns c = none_means _ c.new.ensures.items
