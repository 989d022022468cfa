use Rattle.std.proofs.Common.{false, arith, rules}
use Rattle.std.proofs.lemmas.List.FromFn.{fill_by_all}
use Rattle.unfolding.specs.Groups.{present}
use Rattle.pile.proofs.Made.{made_at}
use Rattle.pile.proofs.presence.Goals as goal

pub returns : goal.returns
returns g c =
    let p = present (g.G.SectionGraph.graph c.args.graph.now) in
    record {
      there =
          fill_by_all p c.from_fn.result 1024 false c.from_fn.ensures.items.long
          (made_at _ p _ c.from_fn.result 1024 (λ i y q h e. (search rules, search rules)) false c.from_fn.ensures.items);
      count = c.count.ensures;
    }

pub invariant_of-result : goal.invariant_of-result
invariant_of-result g c =
    let few = (g.met.G.SectionGraph.valid c.args.graph.now).few in
    record { few = omega (arith, few, c.count.ensures) }
