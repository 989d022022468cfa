use Rattle.std.proofs.Common.{ℕ, ◌+◌, map, drop, sym, ap, ◌∙◌}
use Rattle.model.specs.Graph.{section_of}
use Rattle.content.specs.Core.{bare, mixed_arms}
use Rattle.graph.specs.Bytes.{relocations_in}
use Rattle.content.proofs.Cores.{digest_some, digest_none}
use Rattle.content.proofs.content_digest.Goals as goal
use Rattle.content.proofs.content_digest.Goals.{in-Some, in_default}

pub loop-j-preserved : goal.loop-j-preserved
loop-j-preserved g c =
    let o = section_of (g.G.SectionGraph.graph c.args.graph.now) c.args.s in
    let j = c.loop-j.j in
    elim c.match-relocation.branch [
      | in-Some w ↦
          ap (λ (h : ℕ). mixed_arms h (map bare (drop (j + 1) (relocations_in o)))) (w.digest-is ∙ w.mix_link-digest.ensures) ∙
          (digest_some o c.loop-j.digest j w.in-Some.r (sym c.relocation.ensures ∙ w.in-Some.is) ∙ c.loop-j.invariant)
      | in_default w ↦
          ap (λ (h : ℕ). mixed_arms h (map bare (drop (j + 1) (relocations_in o)))) w.digest-is ∙
          (digest_none o c.loop-j.digest j (sym c.relocation.ensures ∙ w.in_default.is) ∙ c.loop-j.invariant)
    ]
