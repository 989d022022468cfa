use Rattle.std.proofs.Common.{◌≡◌, ℕ, ◌+◌, ◌<◌, ◌≤◌, List, take, drop, Option, unwrap_or, sym, ap, ◌∙◌, arith}
use Rattle.column.specs.Columns.{read_column}
use Rattle.graph.specs.Bytes.{mixed, digest_from}
use Rattle.table.specs.Places.{byte_place, byte_told, size_in}
use Rattle.table.proofs.Digests.{digest_some, digest_none, digest_end}
use Rattle.table.proofs.places.SectionRows.digest.Goals as goal
use Rattle.table.proofs.places.SectionRows.digest.Goals.{in-Some, in_default}

pub loop-i-preserved : goal.loop-i-preserved
loop-i-preserved c bs tells =
    let u : List ℕ = c.args.self.now.text.now in
    let i : ℕ = c.loop-i.i in
    let size : c.unwrap_or-i-end.result ≡ size_in u = c.unwrap_or-i-end.ensures ∙ ap (λ (o : Option ℕ). unwrap_or o 0) c.size.ensures in
    let low : i < size_in u = omega (arith, size, c.loop-i-test.true) in
    let told : c.byte_at.result ≡ byte_told (read_column (take 4 (drop (byte_place i) u))) =
    c.byte_at.ensures ∙ ap (λ (p : ℕ). byte_told (read_column (take 4 (drop p u)))) c.byte_place.ensures in
    elim c.match-byte_at.branch [
      | in-Some w ↦
          ap (λ (h : ℕ). digest_from h (drop (i + 1) bs)) (w.digest-is ∙ w.mix-digest.ensures ∙ ap (mixed c.loop-i.digest) w.from.ensures)
          ∙ digest_some u bs c.loop-i.digest i w.in-Some.x tells low (sym told ∙ w.in-Some.is)
          ∙ c.loop-i.invariant bs tells
      | in_default w ↦
          ap (λ (h : ℕ). digest_from h (drop (i + 1) bs)) w.digest-is
          ∙ digest_none u bs c.loop-i.digest i tells low (sym told ∙ w.in_default.is)
          ∙ c.loop-i.invariant bs tells
    ]

pub returns : goal.returns
returns c bs tells =
    let u : List ℕ = c.args.self.now.text.now in
    let size : c.unwrap_or-i-end.result ≡ size_in u = c.unwrap_or-i-end.ensures ∙ ap (λ (o : Option ℕ). unwrap_or o 0) c.size.ensures in
    let past : size_in u ≤ c.loop-i.i = omega (arith, size, c.loop-i-test.false) in
    sym (digest_end u bs c.loop-i.digest c.loop-i.i tells past) ∙ c.loop-i.invariant bs tells
