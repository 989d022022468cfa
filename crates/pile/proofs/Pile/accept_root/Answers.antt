use Rattle.std.proofs.Common.{refl}
use Rattle.pile.specs.Piling.{root_fits, root_done}
use Rattle.pile.proofs.Pile.accept_root.Goals as goal

pub add_root-requires : goal.add_root-requires
add_root-requires g c =
    let x = g.G.SectionGraph.graph c.args.self.now.below in
    let v = g.met.G.SectionGraph.valid c.args.self.now.below in
    let t = c.args.self.now.table in
    let sound = c.args.self.now.sound in
    root_fits x v t sound c.args.section c.requires

pub invariant_of-self : goal.invariant_of-self
invariant_of-self g c =
    let x = g.G.SectionGraph.graph c.args.self.now.below in
    let v = g.met.G.SectionGraph.valid c.args.self.now.below in
    let t = c.args.self.now.table in
    let sound = c.args.self.now.sound in
    let d = root_done x v t sound c.args.section c.requires c.add_root.new.self c.add_root.ensures in
    record { sound = d.sound }

pub returns : goal.returns
returns g c =
    let x = g.G.SectionGraph.graph c.args.self.now.below in
    let v = g.met.G.SectionGraph.valid c.args.self.now.below in
    let t = c.args.self.now.table in
    let sound = c.args.self.now.sound in
    let d = root_done x v t sound c.args.section c.requires c.add_root.new.self c.add_root.ensures in
    record { over = refl; does = d.does }
