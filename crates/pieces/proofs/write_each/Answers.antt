use Rattle.std.proofs.Common.{◌≡◌, ◌+◌, ◌≤◌, ◌++◌, length, Ok, subst, sym, arith, rules}
use Rattle.std.proofs.lemmas.Result.{err_from_is_err_and}
use Rattle.pieces.specs.Writes.{Writes, pieces}
use Rattle.pieces.proofs.Writing.{both_ok, both_err, both_end, first_ends, stopped, pieces_more, pieces_grow}
use Rattle.pieces.proofs.write_each.Goals as goal

pub slice_bounds-write-count : goal.slice_bounds-write-count
slice_bounds-write-count g c = let p = c.requires.writes in first_ends (c.loop-k.invariant p.0 p.1)

pub slice_bounds-write-start : goal.slice_bounds-write-start
slice_bounds-write-start g c =
    let p = c.requires.writes in
    let h : c.loop-k.at ≤ length c.loop-k.out = first_ends (c.loop-k.invariant p.0 p.1) in
    search rules

pub overflow_add-at : goal.overflow_add-at
overflow_add-at g c =
    let p = c.requires.writes in
    let v = p.1 c.loop-k.k _ _ c.write.result c.write.ensures c.loop-k-test.true in
    let h : c.loop-k.at + c.in_ok-at.field-0 ≤ length c.loop-k.out = both_end (c.loop-k.invariant p.0 p.1) v c.in_ok-at.was in
    search rules

pub returns-in_err-at : goal.returns-in_err-at
returns-in_err-at g c piece each =
    let v = each c.loop-k.k _ _ c.write.result c.write.ensures c.loop-k-test.true in
    let p = err_from_is_err_and c.from_residual.result c.from_residual.ensures.1 in
    let more = pieces_more piece c.loop-k.k in
    rw (p.1, p.2)
    (stopped (pieces piece c.loop-k.k ++ piece c.loop-k.k) (pieces piece c.args.count) _ _ _
    (rw (sym more) (pieces_grow piece (c.loop-k.k + 1) c.args.count (omega arith)))
    (both_err (c.loop-k.invariant piece each) v c.in_err-at.was))

pub loop-k-preserved : goal.loop-k-preserved
loop-k-preserved g c piece each =
    let v = each c.loop-k.k _ _ c.write.result c.write.ensures c.loop-k-test.true in
    rw pieces_more (both_ok (c.loop-k.invariant piece each) v c.in_ok-at.was)

pub returns : goal.returns
returns g c piece each =
    let end : c.loop-k.k ≡ c.args.count = omega (arith, c.loop-k-test.false, c.loop-k.auto.k-end) in
    subst (λ n. Writes (pieces piece n) c.args.out.now c.loop-k.out (Ok c.loop-k.at)) end (c.loop-k.invariant piece each)
