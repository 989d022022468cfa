use Rattle.std.proofs.Common.{◌≡◌, ℕ, ◌<◌, false, get_or, length, ap, sym, ◌∙◌, arith}
use Rattle.slots.specs.declared.Slots.{Slots}
use Rattle.slots.proofs.Turning.{by_absent, by_stays, by_goes}
use Rattle.slots.proofs.Slots.turn.Goals as goal
use Rattle.slots.proofs.Slots.turn.Goals.{then-present-from+in-None, then-present-from+in-Some, else-present-from}

pub loop-s-preserved : goal.loop-s-preserved
loop-s-preserved g c =
    let few = c.args.present.now.few in
    let small : c.loop-s.s < 1024 = omega arith in
    let full : length c.args.self.now.list ≡ 1024 = omega arith in
    let at : c.loop-s.s ≡ c.from.result = cc in
    elim c.if-present-from.branch [
      | then-present-from+in-None w ↦ (
        omega arith,
        omega arith,
        by_stays c.args.present.now.there g.rule c.loop-s.s c.args.self.now full small c.loop-s.self c.loop-s.left c.loop-s.gone c.loop-s.invariant.2 c.if-present-from.self c.if-present-from.left c.if-present-from.gone
            (ap (λ (k : ℕ). get_or c.args.present.now.there k false) at ∙ w.if-present-from.true)
            (sym (c.requires.1.1 c.loop-s.s w.choose.result small w.choose.ensures) ∙ w.in-None.is)
            w.self-is
            w.left-is
            w.gone-is,
      )
      | then-present-from+in-Some w ↦ (
        omega arith,
        omega arith,
        by_goes c.args.present.now.there g.rule c.loop-s.s c.args.self.now full small c.loop-s.self c.loop-s.left c.loop-s.gone c.loop-s.invariant.2 c.if-present-from.self c.if-present-from.left c.if-present-from.gone
            w.in-Some.slot
            (ap (λ (k : ℕ). get_or c.args.present.now.there k false) at ∙ w.if-present-from.true)
            (sym (c.requires.1.1 c.loop-s.s w.choose.result small w.choose.ensures) ∙ w.in-Some.is)
            (ap (λ (x : Slots). x.list) w.self-is ∙ w.set.ensures)
            w.left-is
            w.gone-is,
      )
      | else-present-from w ↦ (
        omega arith,
        omega arith,
        by_absent c.args.present.now.there g.rule c.loop-s.s c.args.self.now full small c.loop-s.self c.loop-s.left c.loop-s.gone c.loop-s.invariant.2 c.if-present-from.self c.if-present-from.left c.if-present-from.gone
            (ap (λ (k : ℕ). get_or c.args.present.now.there k false) at ∙ w.if-present-from.false)
            w.self-is
            w.left-is
            w.gone-is,
      )
    ]
