use Rattle.std.proofs.Common.{refl}
use Rattle.pile.specs.Piling.{bind_fits, bind_done}
use Rattle.pile.proofs.Pile.accept_bind.Goals as goal

pub bind-requires : goal.bind-requires
bind-requires g c =
    let x = g.G.SectionGraph.graph c.args.self.now.below in
    let v = g.met.G.SectionGraph.valid c.args.self.now.below in
    let t = c.args.self.now.table in
    let sound = c.args.self.now.sound in
    bind_fits x v t sound c.args.name c.args.section c.requires

pub invariant_of-self : goal.invariant_of-self
invariant_of-self g c =
    let x = g.G.SectionGraph.graph c.args.self.now.below in
    let v = g.met.G.SectionGraph.valid c.args.self.now.below in
    let t = c.args.self.now.table in
    let sound = c.args.self.now.sound in
    let d = bind_done x v t sound c.args.name c.args.section c.requires c.bind.new.self c.bind.ensures in
    record { sound = d.sound }

pub returns : goal.returns
returns g c =
    let x = g.G.SectionGraph.graph c.args.self.now.below in
    let v = g.met.G.SectionGraph.valid c.args.self.now.below in
    let t = c.args.self.now.table in
    let sound = c.args.self.now.sound in
    let d = bind_done x v t sound c.args.name c.args.section c.requires c.bind.new.self c.bind.ensures in
    record { over = refl; does = d.does }
