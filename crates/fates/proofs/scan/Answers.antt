use Rattle.std.proofs.Common.{◌<◌, ◌*◌, Err, sym, ap, ◌∙◌, rules}
use Rattle.std.specs.Slice.Iter.{chunks_rest, chunks_size}
use Rattle.fates.specs.Maps.{bad_row_at}
use Rattle.fates.proofs.Scans.{start, taken, stopped, few_sections}
use Rattle.fates.proofs.scan.Goals as goal

pub loop-k-init : goal.loop-k-init
loop-k-init c =
    let same = c.into_iter-k-iterator.ensures.into_iter_gives in
    let source = c.enumerate-k-items.ensures.source in
    let count = c.enumerate-k-items.ensures.count in
    let rest = c.chunks.ensures.rest in
    let size = c.chunks.ensures.size in
    start c.args.text.now c.into_iter-k-iterator.result.count (chunks_rest c.into_iter-k-iterator.result.iter) (chunks_size c.into_iter-k-iterator.result.iter) c.empty-map.result.fates (cc) (cc) (cc) c.empty-map.ensures

pub returns-in_default : goal.returns-in_default
returns-in_default c =
    let i = c.loop-k.k-iterator in
    let turn = c.in-Some.ensures.steps in
    ap (λ f. Err f) (c.bad_row.ensures ∙ ap (λ n. bad_row_at (38 * n)) turn.1)
    ∙ sym (stopped c.args.text.now i.count (chunks_rest i.iter) (chunks_size i.iter) c.loop-k.low c.loop-k.map.fates c.in-Some.row.now (chunks_rest c.next.new.self.iter) c.loop-k.invariant turn.0.1.0 turn.0.1.1 turn.0.1.2 c.in_default.field-0 (sym c.read_row.ensures ∙ c.in_default.is))

pub set-requires : goal.set-requires
set-requires c =
    few_sections c.loop-k.low c.in-Some.row.now c.in-Ok.section c.in-Ok.fate (sym c.read_row.ensures ∙ c.in-Ok.is)

pub overflow_add-low : goal.overflow_add-low
overflow_add-low c =
    let few : c.in-Ok.section < 1024 = few_sections c.loop-k.low c.in-Some.row.now c.in-Ok.section c.in-Ok.fate (sym c.read_row.ensures ∙ c.in-Ok.is) in
    search rules

pub loop-k-preserved : goal.loop-k-preserved
loop-k-preserved c =
    let i = c.loop-k.k-iterator in
    let next = c.next.new.self in
    let turn = c.in-Some.ensures.steps in
    taken c.args.text.now i.count (chunks_rest i.iter) (chunks_size i.iter) c.loop-k.low c.loop-k.map.fates c.in-Some.row.now (chunks_rest next.iter) c.loop-k.invariant turn.0.1.0 turn.0.1.1 turn.0.1.2 next.count (chunks_size next.iter) c.in-Ok.section c.in-Ok.fate c.set.new.self.fates turn.2 turn.0.0 (sym c.read_row.ensures ∙ c.in-Ok.is) c.set.ensures
