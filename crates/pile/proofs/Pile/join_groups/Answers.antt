use Rattle.std.proofs.Common.{refl}
use Rattle.pile.specs.Piling.{fold_done}
use Rattle.pile.proofs.Pile.join_groups.Goals as goal

pub invariant_of-self : goal.invariant_of-self
invariant_of-self g c =
    let x = g.G.SectionGraph.graph c.args.self.now.below in
    let v = g.met.G.SectionGraph.valid c.args.self.now.below in
    let t = c.args.self.now.table in
    let sound = c.args.self.now.sound in
    let d =
    fold_done x v t sound c.presence-present.result.there c.args.class.now c.presence-present.result.count c.args.depth
    c.fold.new.self
    c.fold.result.0
    c.fold.result.1
    c.presence-present.ensures.there
    c.requires.class
    c.presence-present.ensures.count
    c.requires.rounds
    c.fold.ensures in
    record { sound = d.sound }

pub returns : goal.returns
returns g c =
    let x = g.G.SectionGraph.graph c.args.self.now.below in
    let v = g.met.G.SectionGraph.valid c.args.self.now.below in
    let t = c.args.self.now.table in
    let sound = c.args.self.now.sound in
    let d =
    fold_done x v t sound c.presence-present.result.there c.args.class.now c.presence-present.result.count c.args.depth
    c.fold.new.self
    c.fold.result.0
    c.fold.result.1
    c.presence-present.ensures.there
    c.requires.class
    c.presence-present.ensures.count
    c.requires.rounds
    c.fold.ensures in
    record { over = refl; does = d.does }
