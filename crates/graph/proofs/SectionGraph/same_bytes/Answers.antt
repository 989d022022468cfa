use Rattle.std.proofs.Common.{sym, refl, ap, ◌∙◌, arith}
use Rattle.model.specs.Graph.{section_of}
use Rattle.graph.specs.Bytes.{told_size}
use Rattle.graph.proofs.Told.{bytes_same}
use Rattle.graph.proofs.SectionGraph.same_bytes.Goals as goal

pub returns : goal.returns
returns g c = (
  λ _.
      bytes_same
      (section_of (g.Self.SectionGraph.graph c.args.self.now) c.args.s)
      (section_of (g.Self.SectionGraph.graph c.args.self.now) c.args.t)
      c.size_told-size.result
      (sym (c.size_told-size.ensures ∙ ap told_size c.record_of.ensures))
      (sym (c.if-size-size_told.false ∙ (c.size_told.ensures ∙ ap told_size c.record_of-2.ensures)))
      (λ i l. c.loop-i.invariant i (omega arith)),
  λ _. refl,
)
