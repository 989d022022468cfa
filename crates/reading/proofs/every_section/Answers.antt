use Rattle.std.proofs.Common.{◌<◌, Some, None, Ok, Err, arith}
use Rattle.std.proofs.lemmas.Result.{err_from_is_err_and}
use Rattle.checklist.specs.Checks.{first_fault, each}
use Rattle.checklist.proofs.Checks.{ok_none, err_some, answer_some, each_more, each_found}
use Rattle.elf.specs.Layout.{sections}
use Rattle.rules.specs.Rules.{pass_rule}
use Rattle.reading.proofs.Sections.{pass_found}
use Rattle.reading.proofs.every_section.Goals as goal

pub returns-in_err-rule : goal.returns-in_err-rule
returns-in_err-rule g c = λ cs known.
    let b = c.args.headers.bytes.now
    in let i = c.loop-i.i
    in let f = c.in_err-rule.field-0.0
    in let lt : i < sections b = omega (arith, c.args.headers.headed.count_right, c.loop-i-test.true)
    in let p = err_from_is_err_and c.from_residual.result c.from_residual.ensures.1
    in let found = err_some (first_fault (cs c.placed.result.place c.placed.result.header)) f tt (known c.placed.result (Err f) c.in_err-rule.ensures)
    in rw (p.1, p.2)
    (answer_some (first_fault (each (pass_rule cs b) (sections b))) f tt
    (each_found (pass_rule cs b) i (sections b) f lt (c.loop-i.invariant cs known)
    (pass_found cs b i c.placed.result.place c.placed.result.header (Some f) c.placed.ensures.place c.placed.ensures.header found)))

pub loop-i-preserved : goal.loop-i-preserved
loop-i-preserved g c = λ cs known.
    let b = c.args.headers.bytes.now
    in let none = ok_none (first_fault (cs c.placed.result.place c.placed.result.header)) c.in_ok-rule.field-0 tt (known c.placed.result (Ok c.in_ok-rule.field-0) c.in_ok-rule.ensures)
    in each_more (pass_rule cs b) c.loop-i.i (c.loop-i.invariant cs known)
    (pass_found cs b c.loop-i.i c.placed.result.place c.placed.result.header None c.placed.ensures.place c.placed.ensures.header none.0)
