use Rattle.std.proofs.Common.{refl}
use Rattle.pile.specs.Piling.{pin_fits, pin_done}
use Rattle.pile.proofs.Pile.accept_pin.Goals as goal

pub pin-requires : goal.pin-requires
pin-requires g c =
    let x = g.G.SectionGraph.graph c.args.self.now.below in
    let v = g.met.G.SectionGraph.valid c.args.self.now.below in
    let t = c.args.self.now.table in
    let sound = c.args.self.now.sound in
    pin_fits x v t sound c.args.section c.requires

pub invariant_of-self : goal.invariant_of-self
invariant_of-self g c =
    let x = g.G.SectionGraph.graph c.args.self.now.below in
    let v = g.met.G.SectionGraph.valid c.args.self.now.below in
    let t = c.args.self.now.table in
    let sound = c.args.self.now.sound in
    let d = pin_done x v t sound c.args.section c.requires c.pin.new.self c.pin.ensures in
    record { sound = d.sound }

pub returns : goal.returns
returns g c =
    let x = g.G.SectionGraph.graph c.args.self.now.below in
    let v = g.met.G.SectionGraph.valid c.args.self.now.below in
    let t = c.args.self.now.table in
    let sound = c.args.self.now.sound in
    let d = pin_done x v t sound c.args.section c.requires c.pin.new.self c.pin.ensures in
    record { over = refl; does = d.does }
