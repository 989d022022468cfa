use Rattle.std.proofs.Common.{Ok, Err, sym, ap, ◌∙◌, arith}
use Rattle.std.proofs.lemmas.Result.{err_from_is_err_and}
use Rattle.std.proofs.lemmas.List.{drop_all}
use Rattle.std.specs.declared.ops.ControlFlow.TheVariants.{Continue, Break}
use Rattle.field.proofs.Onward.{turn}
use Rattle.field.proofs.uleb.Goals as goal

pub returns-in_err-m : goal.returns-in_err-m
returns-in_err-m c =
    let p = err_from_is_err_and c.from_residual.result c.from_residual.ensures.1
    in rw (p.1, p.2)
    (turn c.args.bytes.now c.loop-x.x-index c.args.first c.loop-x.n (Err _)
    (omega arith) (c.type_inv.bytes c.loop-x.x-index).fits c.loop-x.invariant c.in_err-m.ensures)

pub returns-in-Break : goal.returns-in-Break
returns-in-Break c =
    turn c.args.bytes.now c.loop-x.x-index c.args.first c.loop-x.n (Ok (Break c.in-Break.m))
    (omega arith) (c.type_inv.bytes c.loop-x.x-index).fits c.loop-x.invariant
    (sym (ap Ok c.in-Break.is) ∙ c.in_ok-m.ensures)

pub loop-x-preserved : goal.loop-x-preserved
loop-x-preserved c =
    turn c.args.bytes.now c.loop-x.x-index c.args.first c.loop-x.n (Ok (Continue c.in-Continue.m))
    (omega arith) (c.type_inv.bytes c.loop-x.x-index).fits c.loop-x.invariant
    (sym (ap Ok c.in-Continue.is) ∙ c.in_ok-m.ensures)

pub returns : goal.returns
returns c =
    let done = drop_all c.loop-x.x-index c.args.bytes.now (omega arith)
    in rw c.misshapen.ensures (rw done at c.loop-x.invariant.2)
