use Rattle.std.proofs.Common.{arith}
use Rattle.std.proofs.lemmas.Result.{err_from_is_err_and}
use Rattle.row.proofs.Bytes.{count_starts, stops, fails, more, ends, runs_on}
use Rattle.row.proofs.byte_count.Goals as goal

pub loop-count-init : goal.loop-count-init
loop-count-init c = count_starts c.args.text.now c.in_ok-short_at.field-0 c.in_ok-short_at.ensures

pub returns-then-byte_at-eq10 : goal.returns-then-byte_at-eq10
returns-then-byte_at-eq10 c =
    stops c.args.text.now c.loop-count.count c.from.result c.byte_at.result c.loop-count-test.true
    c.loop-count.invariant
    c.from.ensures
    c.byte_at.ensures
    c.if-byte_at-eq10.true

pub returns-in_err-short_at-2 : goal.returns-in_err-short_at-2
returns-in_err-short_at-2 c =
    let p = err_from_is_err_and c.from_residual-in_err-short_at-2.result c.from_residual-in_err-short_at-2.ensures.1 in
    rw (p.1, p.2)
    (
    fails c.args.text.now c.loop-count.count c.from.result c.byte_at.result c.loop-count-test.true
    c.loop-count.invariant
    c.from.ensures
    c.byte_at.ensures
    c.in_err-short_at-2.field-0.0
    c.if-byte_at-eq10.false
    c.in_err-short_at-2.ensures
    )

pub loop-count-preserved : goal.loop-count-preserved
loop-count-preserved c =
    more c.args.text.now c.loop-count.count c.from.result c.byte_at.result c.loop-count-test.true
    c.loop-count.invariant
    c.from.ensures
    c.byte_at.ensures
    c.in_ok-short_at-2.field-0
    c.if-byte_at-eq10.false
    c.in_ok-short_at-2.ensures

pub returns-in_err-end_at : goal.returns-in_err-end_at
returns-in_err-end_at c =
    let p = err_from_is_err_and c.from_residual-in_err-end_at.result c.from_residual-in_err-end_at.ensures.1 in
    rw (p.1, p.2)
    (
    runs_on c.args.text.now c.loop-count.count (omega arith) c.loop-count.invariant c.in_err-end_at.field-0.0
    c.in_err-end_at.ensures
    )

pub returns : goal.returns
returns c =
    ends c.args.text.now c.loop-count.count (omega arith) c.loop-count.invariant c.in_ok-end_at.ensures.0
