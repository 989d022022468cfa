use Rattle.std.proofs.Common.{ℕ, ◌+◌, ◌≤◌, drop, sym, ap, ◌∙◌, arith}
use Rattle.model.specs.Graph.{section_of, told_record}
use Rattle.graph.specs.Bytes.{bytes_in, told_size, digest_from, mixed}
use Rattle.graph.proofs.Told.{digest_some, digest_none, digest_end}
use Rattle.graph.proofs.SectionGraph.byte_digest.Goals as goal
use Rattle.graph.proofs.SectionGraph.byte_digest.Goals.{in-Some, in_default}

pub loop-i-preserved : goal.loop-i-preserved
loop-i-preserved g c =
    let o = section_of (g.Self.SectionGraph.graph c.args.self.now) c.args.s in
    let i = c.loop-i.i in
    elim c.match-byte.branch [
      | in-Some w ↦
          ap (λ (h : ℕ). digest_from h (drop (i + 1) (bytes_in o)))
          (w.digest-is ∙ w.mix-digest.ensures ∙ ap (mixed c.loop-i.digest) w.from.ensures) ∙
          (digest_some o c.loop-i.digest i w.in-Some.x (sym c.byte.ensures ∙ w.in-Some.is) ∙ c.loop-i.invariant)
      | in_default w ↦
          ap (λ (h : ℕ). digest_from h (drop (i + 1) (bytes_in o))) w.digest-is ∙
          (digest_none o c.loop-i.digest i (sym c.byte.ensures ∙ w.in_default.is) ∙ c.loop-i.invariant)
    ]

pub returns : goal.returns
returns g c =
    let o = section_of (g.Self.SectionGraph.graph c.args.self.now) c.args.s in
    let size = c.size_told-i-end.ensures ∙ ap told_size c.record_of.ensures in
    let past : told_size (told_record o) ≤ c.loop-i.i = omega arith in
    sym (digest_end o c.loop-i.digest c.loop-i.i past) ∙ c.loop-i.invariant
