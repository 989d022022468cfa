use Rattle.std.proofs.Common.{◌≡◌, ℕ, ◌+◌, ◌*◌, ◌<◌, Ok, Err, sym, ap, ◌∙◌, arith}
use Rattle.checklist.specs.Checks.{first_fault, each}
use Rattle.checklist.proofs.Checks.{ok_none, err_some, answer_some, answer_none}
use Rattle.elf.specs.Layout.{entry_at, sections}
use Rattle.rules.specs.Rules.{relocation_rule, entry_checks}
use Rattle.rules.specs.Notes.{parts}
use Rattle.reading.proofs.Parting.{part_ends}
use Rattle.reading.proofs.Turns.{start, ended, passed_over, into, entry_more, out, part_found, entry_found}
use Rattle.reading.proofs.relocations.Goals as goal
use Rattle.reading.proofs.relocations.Goals.{in_default, in-Some+else-loop-j-test, else-reading-test, then-reading-test+in-Err, then-reading-test+in-Ok+in-Some+then-loop-j-test+in-Err-entry_at}

pub reading-init : goal.reading-init
reading-init c = start c.args.object.tables.headers.bytes.now

pub bounds-parts-part : goal.bounds-parts-part
bounds-parts-part c =
    (into c.args.object.tables.headers.bytes.now c.reading.i _ c.reading.parts c.in-Some.part c.reading.invariant (rw c.args.object.tables.headers.headed.count_right at c.args.object.tables.headers.headed.few) (ap Ok (sym c.in-Some.is) ∙ c.in-Ok.ensures)).0

pub loop-j-init : goal.loop-j-init
loop-j-init c =
    (into c.args.object.tables.headers.bytes.now c.reading.i _ c.reading.parts c.in-Some.part c.reading.invariant (rw c.args.object.tables.headers.headed.count_right at c.args.object.tables.headers.headed.few) (ap Ok (sym c.in-Some.is) ∙ c.in-Ok.ensures)).1

pub overflow_add-q : goal.overflow_add-q
overflow_add-q c =
    let lt : c.reading.i < sections c.args.object.tables.headers.bytes.now = omega (arith, c.args.object.tables.headers.headed.count_right, c.reading-test.true)
    in let ends = part_ends c.args.object.tables.headers.bytes.now c.reading.i c.in-Some.part lt c.loop-j.invariant.told c.args.object.extents
    in record { fits = omega arith }

pub entry_at-requires : goal.entry_at-requires
entry_at-requires c =
    let lt : c.reading.i < sections c.args.object.tables.headers.bytes.now = omega (arith, c.args.object.tables.headers.headed.count_right, c.reading-test.true)
    in let ends = part_ends c.args.object.tables.headers.bytes.now c.reading.i c.in-Some.part lt c.loop-j.invariant.told c.args.object.extents
    in omega arith

pub loop-j-preserved : goal.loop-j-preserved
loop-j-preserved c =
    let b = c.args.object.tables.headers.bytes.now
    in let m = c.in-Some.part
    in let q : ℕ = m.from + 24 * c.loop-j.j
    in let none = ok_none (first_fault (entry_checks b m.size q (entry_at b q))) c.in_default-entry_at.field-0 tt c.in_default-entry_at.ensures
    in entry_more b c.reading.i _ _ m c.loop-j.j c.loop-j.invariant none.0

pub reading-preserved : goal.reading-preserved
reading-preserved c =
    elim c.match-told.branch [
      | in_default w ↦
          rw (w.refused-is, w.parts-is)
          (passed_over c.args.object.tables.headers.bytes.now c.reading.i _ c.reading.parts c.reading.invariant (ap Ok (sym w.in_default.is) ∙ c.in-Ok.ensures))
      | in-Some+else-loop-j-test w ↦
          rw (w.refused-is, w.parts-is)
          (out c.args.object.tables.headers.bytes.now c.reading.i _ _ w.in-Some.part w.loop-j.j w.loop-j.invariant (omega arith))
    ]

pub returns : goal.returns
returns c =
    elim c.reading-test.branch [
      | else-reading-test w ↦
          let b = c.args.object.tables.headers.bytes.now
          in let end : c.reading.i ≡ sections b = omega (arith, c.args.object.tables.headers.headed.count_right)
          in let done = ended b c.reading.i (sections b) _ c.reading.parts c.reading.invariant end
          in ap Ok (w.parts-is ∙ done.1) ∙ answer_none (first_fault (each (relocation_rule b) (sections b))) (parts b) done.0
      | then-reading-test+in-Err w ↦ let z : ◌≡◌ {A = ℕ} 0 1 = cc in absurd (omega arith)
      | then-reading-test+in-Ok+in-Some+then-loop-j-test+in-Err-entry_at w ↦ let z : ◌≡◌ {A = ℕ} 0 1 = cc in absurd (omega arith)
    ]

pub returns-in-Some-refused : goal.returns-in-Some-refused
returns-in-Some-refused c =
    elim c.reading-test.branch [
      | else-reading-test w ↦ let none = c.reading.invariant.none in let z : ◌≡◌ {A = ℕ} 0 1 = cc in absurd (omega arith)
      | then-reading-test+in-Err w ↦
          let b = c.args.object.tables.headers.bytes.now
          in let lt : c.reading.i < sections b = omega (arith, c.args.object.tables.headers.headed.count_right, w.reading-test.true)
          in let same : c.in-Some-refused.f ≡ w.in-Err.f = cc
          in ap Err same
          ∙ answer_some (first_fault (each (relocation_rule b) (sections b))) w.in-Err.f (parts b)
          (part_found b c.reading.i _ c.reading.parts (sections b) w.in-Err.f c.reading.invariant lt w.in-Err.ensures)
      | then-reading-test+in-Ok+in-Some+then-loop-j-test+in-Err-entry_at w ↦
          let b = c.args.object.tables.headers.bytes.now
          in let m = w.in-Some.part
          in let q : ℕ = m.from + 24 * w.loop-j.j
          in let lt : c.reading.i < sections b = omega (arith, c.args.object.tables.headers.headed.count_right, w.reading-test.true)
          in let same : c.in-Some-refused.f ≡ w.in-Err-entry_at.f = cc
          in let found = err_some (first_fault (entry_checks b m.size q (entry_at b q))) w.in-Err-entry_at.f tt w.in-Err-entry_at.ensures
          in ap Err same
          ∙ answer_some (first_fault (each (relocation_rule b) (sections b))) w.in-Err-entry_at.f (parts b)
          (entry_found b c.reading.i _ _ (sections b) w.in-Err-entry_at.f m w.loop-j.j w.loop-j.invariant lt w.loop-j-test.true found)
    ]
