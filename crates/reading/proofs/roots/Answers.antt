use Rattle.std.proofs.Common.{◌∷◌, [], length, sym, ap, ◌∙◌, arith}
use Rattle.std.proofs.lemmas.List.{length-append}
use Rattle.elf.specs.Layout.{root}
use Rattle.rules.specs.Notes.{told_roots}
use Rattle.reading.proofs.Rooting.{root_more, root_same}
use Rattle.reading.proofs.roots.Goals as goal
use Rattle.reading.proofs.roots.Goals.{then-is_root, else-is_root}

pub loop-i-preserved : goal.loop-i-preserved
loop-i-preserved c =
    let b = c.args.headers.bytes.now
    in let i = c.loop-i.i
    in elim c.if-is_root.branch [
      | then-is_root w ↦ (
        rw w.found-is (omega (arith, ap length w.push.ensures ∙ length-append (told_roots c.loop-i.found) (i ∷ []), c.loop-i.invariant.0)),
        rw w.found-is (w.push.ensures ∙ root_more b i (told_roots c.loop-i.found) c.loop-i.invariant.1 (ap root (sym c.section.ensures) ∙ sym w.if-is_root.ensures)),
      )
      | else-is_root w ↦ (
        rw w.found-is (omega (arith, c.loop-i.invariant.0)),
        rw w.found-is (root_same b i (told_roots c.loop-i.found) c.loop-i.invariant.1 (ap root (sym c.section.ensures) ∙ sym w.if-is_root.ensures)),
      )
    ]
