use Rattle.std.proofs.Common.{◌+◌, map, None, Ok, Err, sym, ap, ◌∙◌, arith}
use Rattle.std.specs.List.{range_with_len}
use Rattle.std.proofs.lemmas.Result.{err_from_is_err_and}
use Rattle.field.specs.Uleb.{misshapen}
use Rattle.checklist.specs.Checks.{first_fault}
use Rattle.checklist.proofs.Checks.{ok_none, err_some, answer_some, answer_none}
use Rattle.elf.specs.declared.Symbol.{Symbol}
use Rattle.rules.specs.Rules.{symbols, symbol}
use Rattle.rules.specs.Notes.{listed_in}
use Rattle.rules.specs.Listing.{item_checks, number_checks, marked}
use Rattle.reading.proofs.Scan.{all, begin, belongs, bad_number, goes_on, no_symbol, is_whole, cut_off, all_read, moved}
use Rattle.reading.proofs.listing.Goals as goal
use Rattle.reading.proofs.listing.Goals.{in-Continue, in-Break+in_ok-s-in-Break}

pub loop-i-init : goal.loop-i-init
loop-i-init c = begin c.args.symbols.bytes.now c.args.base c.args.bytes.now

pub returns-in_err-number : goal.returns-in_err-number
returns-in_err-number c =
    let b = c.args.symbols.bytes.now
    in let i = c.loop-i.i
    in let f = c.in_err-number.field-0.0
    in let at = belongs c.loop-i.begun (c.args.base + i) c.none_yet.result c.unwrap_or-at_hand.result c.none_yet.ensures c.unwrap_or-at_hand.ensures
    in let found = bad_number b c.args.base c.args.bytes.now i c.loop-i.begun c.loop-i.marks c.unwrap_or-at_hand.result c.loop-i.invariant at (omega arith) (c.type_inv.bytes i).fits f c.in_err-number.ensures
    in let p = err_from_is_err_and c.from_residual.result c.from_residual.ensures.1
    in rw (p.1, p.2) (answer_some (first_fault (item_checks (symbols b).count (all c.args.base c.args.bytes.now))) f (map (listed_in b (all c.args.base c.args.bytes.now)) (range_with_len 0 1024)) found)

pub returns-in_err-s-in-Break : goal.returns-in_err-s-in-Break
returns-in_err-s-in-Break c =
    let b = c.args.symbols.bytes.now
    in let i = c.loop-i.i
    in let f = c.in_err-s-in-Break.field-0.0
    in let m = c.in-Break.number
    in let h = c.unwrap_or-at_hand.result
    in let at = belongs c.loop-i.begun (c.args.base + i) c.none_yet.result h c.none_yet.ensures c.unwrap_or-at_hand.ensures
    in let bad = err_some (first_fault (number_checks (symbols b).count h.from (Ok m))) f (symbol b m.value) c.in_err-s-in-Break.ensures
    in let found = no_symbol b c.args.base c.args.bytes.now i c.loop-i.begun c.loop-i.marks h c.loop-i.invariant at (omega arith) (c.type_inv.bytes i).fits f m (ap Ok (sym c.in-Break.is) ∙ c.in_ok-number.ensures) bad
    in let p = err_from_is_err_and c.from_residual-in_err-s-in-Break.result c.from_residual-in_err-s-in-Break.ensures.1
    in rw (p.1, p.2) (answer_some (first_fault (item_checks (symbols b).count (all c.args.base c.args.bytes.now))) f (map (listed_in b (all c.args.base c.args.bytes.now)) (range_with_len 0 1024)) found)

pub loop-i-preserved : goal.loop-i-preserved
loop-i-preserved c =
    let b = c.args.symbols.bytes.now
    in let bytes = c.args.bytes.now
    in let i = c.loop-i.i
    in let h = c.unwrap_or-at_hand.result
    in let at = belongs c.loop-i.begun (c.args.base + i) c.none_yet.result h c.none_yet.ensures c.unwrap_or-at_hand.ensures
    in elim c.match-branch-2.branch [
      | in-Continue w ↦
          moved b c.args.base bytes (i + 1) c.match-branch-2.begun _ c.match-branch-2.marks c.loop-i.marks w.begun-is w.marks-is
          (goes_on b c.args.base bytes i c.loop-i.begun c.loop-i.marks h c.loop-i.invariant at (omega arith) (c.type_inv.bytes i).fits
          w.in-Continue.number (ap Ok (sym w.in-Continue.is) ∙ c.in_ok-number.ensures))
      | in-Break+in_ok-s-in-Break w ↦
          let m = w.in-Break.number
          in let good = ok_none (first_fault (number_checks (symbols b).count h.from (Ok m))) w.in_ok-s-in-Break.s (symbol b m.value) w.in_ok-s-in-Break.ensures
          in moved b c.args.base bytes (i + 1) c.match-branch-2.begun None c.match-branch-2.marks (marked (symbol b m.value) c.loop-i.marks) w.begun-is
          (w.marks-is ∙ (w.mark.ensures ∙ ap (λ (x : Symbol). marked x c.loop-i.marks) good.1))
          (is_whole b c.args.base bytes i c.loop-i.begun c.loop-i.marks h c.loop-i.invariant at (omega arith) (c.type_inv.bytes i).fits
          m (ap Ok (sym w.in-Break.is) ∙ c.in_ok-number.ensures) good.0)
    ]

pub returns-in-Some : goal.returns-in-Some
returns-in-Some c =
    let b = c.args.symbols.bytes.now
    in let its = all c.args.base c.args.bytes.now
    in let found = cut_off b c.args.base c.args.bytes.now c.loop-i.i c.loop-i.begun c.loop-i.marks c.in-Some.cut_off c.loop-i.invariant (omega arith) c.in-Some.is
    in ap Err c.misshapen.ensures ∙ answer_some (first_fault (item_checks (symbols b).count its)) (misshapen c.in-Some.cut_off.from) (map (listed_in b its) (range_with_len 0 1024)) found

pub returns : goal.returns
returns c =
    let b = c.args.symbols.bytes.now
    in let its = all c.args.base c.args.bytes.now
    in let done = all_read b c.args.base c.args.bytes.now c.loop-i.i c.loop-i.begun c.loop-i.marks c.loop-i.invariant (omega arith) c.in_default.is
    in ap Ok done.1 ∙ answer_none (first_fault (item_checks (symbols b).count its)) (map (listed_in b its) (range_with_len 0 1024)) done.0
