use Rattle.std.proofs.Common.{length, Ok, Err, sym, subst, rules}
use Rattle.std.proofs.lemmas.Result.{err_from_is_err_and}
use Rattle.checklist.specs.Checks.{first_fault, each}
use Rattle.checklist.proofs.Checks.{ok_none, err_some}
use Rattle.elf.specs.Layout.{sections}
use Rattle.rules.specs.Known.{Tabled}
use Rattle.rules.specs.Rules.{extent_checks, content_checks, extent_rule, content_rule, only_rule, the_only, table_rule, symbols, relocation_rule}
use Rattle.rules.specs.Listing.{significance_kind, significance, listing_rule}
use Rattle.rules.specs.Notes.{parts, marks_of}
use Rattle.rules.specs.Verdict.{from_contents, from_only_table, from_table, from_relocations, from_only_listing}
use Rattle.reading.proofs.Ending.{ends_err, returned, after_extents, after_contents, after_only_table, after_table, after_relocations, after_only_listing, tabled}
use Rattle.reading.proofs.examine.Goals as goal

pub returns-in_err-every_section : goal.returns-in_err-every_section
returns-in_err-every_section c =
    let hb = c.in_ok-headers.headers.bytes.now
    in let f = c.in_err-every_section.field-0.0
    in let p = err_from_is_err_and c.from_residual-in_err-every_section.result c.from_residual-in_err-every_section.ensures.1
    in rw (p.1, p.2) (returned c.args.b.now hb (Err f) c.in_ok-headers.ensures.1 c.in_ok-headers.ensures.0
    (ends_err hb (each (extent_rule hb) (sections hb)) (from_contents hb) f
    (err_some (first_fault (each (extent_rule hb) (sections hb))) f tt (c.in_err-every_section.ensures (extent_checks (length hb)) (λ s r k. search rules)))))

pub returns-in_err-every_section-2 : goal.returns-in_err-every_section-2
returns-in_err-every_section-2 c =
    let hb = c.in_ok-headers.headers.bytes.now
    in let f = c.in_err-every_section-2.field-0.0
    in let p = err_from_is_err_and c.from_residual-in_err-every_section-2.result c.from_residual-in_err-every_section-2.ensures.1
    in let extents = ok_none (first_fault (each (extent_rule hb) (sections hb))) c.in_ok-every_section.field-0 tt (c.in_ok-every_section.ensures (extent_checks (length hb)) (λ s r k. search rules))
    in rw (p.1, p.2) (returned c.args.b.now hb (Err f) c.in_ok-headers.ensures.1 c.in_ok-headers.ensures.0
    (after_extents hb (Err f) extents.0 (ends_err hb (each (content_rule hb) (sections hb)) (from_only_table hb) f
    (err_some (first_fault (each (content_rule hb) (sections hb))) f tt (c.in_err-every_section-2.ensures content_checks (λ s r k. search rules))))))

pub returns-in_err-symbol_section : goal.returns-in_err-symbol_section
returns-in_err-symbol_section c =
    let hb = c.in_ok-headers.headers.bytes.now
    in let f = c.in_err-symbol_section.field-0.0
    in let p = err_from_is_err_and c.from_residual-in_err-symbol_section.result c.from_residual-in_err-symbol_section.ensures.1
    in let extents = ok_none (first_fault (each (extent_rule hb) (sections hb))) c.in_ok-every_section.field-0 tt (c.in_ok-every_section.ensures (extent_checks (length hb)) (λ s r k. search rules))
    in let contents = ok_none (first_fault (each (content_rule hb) (sections hb))) c.in_ok-every_section-2.field-0 tt (c.in_ok-every_section-2.ensures content_checks (λ s r k. search rules))
    in rw (p.1, p.2) (returned c.args.b.now hb (Err f) c.in_ok-headers.ensures.1 c.in_ok-headers.ensures.0
    (after_contents hb (Err f) extents.0 contents.0 (ends_err hb (each (only_rule 2 hb) (sections hb)) (from_table hb) f
    (err_some (first_fault (each (only_rule 2 hb) (sections hb))) f (the_only 2 hb) c.in_err-symbol_section.ensures))))

pub symbol_table-requires-clause-extents : goal.symbol_table-requires-clause-extents
symbol_table-requires-clause-extents c =
    let hb = c.in_ok-headers.headers.bytes.now
    in let extents = ok_none (first_fault (each (extent_rule hb) (sections hb))) c.in_ok-every_section.field-0 tt (c.in_ok-every_section.ensures (extent_checks (length hb)) (λ s r k. search rules))
    in extents.0

pub returns-in_err-symbols : goal.returns-in_err-symbols
returns-in_err-symbols c =
    let hb = c.in_ok-headers.headers.bytes.now
    in let f = c.in_err-symbols.field-0.0
    in let p = err_from_is_err_and c.from_residual-in_err-symbols.result c.from_residual-in_err-symbols.ensures.1
    in let extents = ok_none (first_fault (each (extent_rule hb) (sections hb))) c.in_ok-every_section.field-0 tt (c.in_ok-every_section.ensures (extent_checks (length hb)) (λ s r k. search rules))
    in let contents = ok_none (first_fault (each (content_rule hb) (sections hb))) c.in_ok-every_section-2.field-0 tt (c.in_ok-every_section-2.ensures content_checks (λ s r k. search rules))
    in let alone = ok_none (first_fault (each (only_rule 2 hb) (sections hb))) c.in_ok-symbol_section.symbol_section (the_only 2 hb) c.in_ok-symbol_section.ensures
    in rw (p.1, p.2) (returned c.args.b.now hb (Err f) c.in_ok-headers.ensures.1 c.in_ok-headers.ensures.0
    (after_only_table hb (Err f) extents.0 contents.0 alone.0 (ends_err hb (table_rule hb) (from_relocations hb) f
    (err_some (first_fault (table_rule hb)) f (symbols hb) c.in_err-symbols.ensures))))

pub invariant_of-table : goal.invariant_of-table
invariant_of-table c =
    let hb = c.in_ok-headers.headers.bytes.now
    in let extents = ok_none (first_fault (each (extent_rule hb) (sections hb))) c.in_ok-every_section.field-0 tt (c.in_ok-every_section.ensures (extent_checks (length hb)) (λ s r k. search rules))
    in let entries = ok_none (first_fault (table_rule hb)) c.in_ok-symbols.symbols (symbols hb) c.in_ok-symbols.ensures
    in record { tabled = subst (Tabled hb) (sym entries.1) (tabled hb extents.0) }

pub invariant_of-object : goal.invariant_of-object
invariant_of-object c =
    let hb = c.in_ok-headers.headers.bytes.now
    in let extents = ok_none (first_fault (each (extent_rule hb) (sections hb))) c.in_ok-every_section.field-0 tt (c.in_ok-every_section.ensures (extent_checks (length hb)) (λ s r k. search rules))
    in let alone = ok_none (first_fault (each (only_rule 2 hb) (sections hb))) c.in_ok-symbol_section.symbol_section (the_only 2 hb) c.in_ok-symbol_section.ensures
    in record { found = alone.1; extents = extents.0 }

pub returns-in_err-parts : goal.returns-in_err-parts
returns-in_err-parts c =
    let hb = c.in_ok-headers.headers.bytes.now
    in let f = c.in_err-parts.field-0.0
    in let p = err_from_is_err_and c.from_residual-in_err-parts.result c.from_residual-in_err-parts.ensures.1
    in let extents = ok_none (first_fault (each (extent_rule hb) (sections hb))) c.in_ok-every_section.field-0 tt (c.in_ok-every_section.ensures (extent_checks (length hb)) (λ s r k. search rules))
    in let contents = ok_none (first_fault (each (content_rule hb) (sections hb))) c.in_ok-every_section-2.field-0 tt (c.in_ok-every_section-2.ensures content_checks (λ s r k. search rules))
    in let alone = ok_none (first_fault (each (only_rule 2 hb) (sections hb))) c.in_ok-symbol_section.symbol_section (the_only 2 hb) c.in_ok-symbol_section.ensures
    in let entries = ok_none (first_fault (table_rule hb)) c.in_ok-symbols.symbols (symbols hb) c.in_ok-symbols.ensures
    in rw (p.1, p.2) (returned c.args.b.now hb (Err f) c.in_ok-headers.ensures.1 c.in_ok-headers.ensures.0
    (after_table hb (Err f) extents.0 contents.0 alone.0 entries.0 (ends_err hb (each (relocation_rule hb) (sections hb)) (from_only_listing hb) f
    (err_some (first_fault (each (relocation_rule hb) (sections hb))) f (parts hb) c.in_err-parts.ensures))))

pub returns-in_err-significance_section : goal.returns-in_err-significance_section
returns-in_err-significance_section c =
    let hb = c.in_ok-headers.headers.bytes.now
    in let f = c.in_err-significance_section.field-0.0
    in let p = err_from_is_err_and c.from_residual-in_err-significance_section.result c.from_residual-in_err-significance_section.ensures.1
    in let extents = ok_none (first_fault (each (extent_rule hb) (sections hb))) c.in_ok-every_section.field-0 tt (c.in_ok-every_section.ensures (extent_checks (length hb)) (λ s r k. search rules))
    in let contents = ok_none (first_fault (each (content_rule hb) (sections hb))) c.in_ok-every_section-2.field-0 tt (c.in_ok-every_section-2.ensures content_checks (λ s r k. search rules))
    in let alone = ok_none (first_fault (each (only_rule 2 hb) (sections hb))) c.in_ok-symbol_section.symbol_section (the_only 2 hb) c.in_ok-symbol_section.ensures
    in let entries = ok_none (first_fault (table_rule hb)) c.in_ok-symbols.symbols (symbols hb) c.in_ok-symbols.ensures
    in let related = ok_none (first_fault (each (relocation_rule hb) (sections hb))) c.in_ok-parts.parts (parts hb) c.in_ok-parts.ensures
    in rw (p.1, p.2) (returned c.args.b.now hb (Err f) c.in_ok-headers.ensures.1 c.in_ok-headers.ensures.0
    (after_relocations hb (Err f) extents.0 contents.0 alone.0 entries.0 related.0 (ends_err hb (each (only_rule significance_kind hb) (sections hb)) (listing_rule hb) f
    (err_some (first_fault (each (only_rule significance_kind hb) (sections hb))) f (the_only significance_kind hb) c.in_err-significance_section.ensures))))

pub returns-in_err-listed : goal.returns-in_err-listed
returns-in_err-listed c =
    let hb = c.in_ok-headers.headers.bytes.now
    in let f = c.in_err-listed.field-0.0
    in let p = err_from_is_err_and c.from_residual-in_err-listed.result c.from_residual-in_err-listed.ensures.1
    in let extents = ok_none (first_fault (each (extent_rule hb) (sections hb))) c.in_ok-every_section.field-0 tt (c.in_ok-every_section.ensures (extent_checks (length hb)) (λ s r k. search rules))
    in let contents = ok_none (first_fault (each (content_rule hb) (sections hb))) c.in_ok-every_section-2.field-0 tt (c.in_ok-every_section-2.ensures content_checks (λ s r k. search rules))
    in let alone = ok_none (first_fault (each (only_rule 2 hb) (sections hb))) c.in_ok-symbol_section.symbol_section (the_only 2 hb) c.in_ok-symbol_section.ensures
    in let entries = ok_none (first_fault (table_rule hb)) c.in_ok-symbols.symbols (symbols hb) c.in_ok-symbols.ensures
    in let related = ok_none (first_fault (each (relocation_rule hb) (sections hb))) c.in_ok-parts.parts (parts hb) c.in_ok-parts.ensures
    in let single = ok_none (first_fault (each (only_rule significance_kind hb) (sections hb))) c.in_ok-significance_section.significance_section (the_only significance_kind hb) c.in_ok-significance_section.ensures
    in rw (p.1, p.2) (returned c.args.b.now hb (Err f) c.in_ok-headers.ensures.1 c.in_ok-headers.ensures.0
    (after_only_listing hb (Err f) extents.0 contents.0 alone.0 entries.0 related.0 single.0
    (err_some (first_fault (listing_rule hb)) f (marks_of hb (significance hb)) c.in_err-listed.ensures)))

pub returns : goal.returns
returns c =
    let hb = c.in_ok-headers.headers.bytes.now
    in let extents = ok_none (first_fault (each (extent_rule hb) (sections hb))) c.in_ok-every_section.field-0 tt (c.in_ok-every_section.ensures (extent_checks (length hb)) (λ s r k. search rules))
    in let contents = ok_none (first_fault (each (content_rule hb) (sections hb))) c.in_ok-every_section-2.field-0 tt (c.in_ok-every_section-2.ensures content_checks (λ s r k. search rules))
    in let alone = ok_none (first_fault (each (only_rule 2 hb) (sections hb))) c.in_ok-symbol_section.symbol_section (the_only 2 hb) c.in_ok-symbol_section.ensures
    in let entries = ok_none (first_fault (table_rule hb)) c.in_ok-symbols.symbols (symbols hb) c.in_ok-symbols.ensures
    in let related = ok_none (first_fault (each (relocation_rule hb) (sections hb))) c.in_ok-parts.parts (parts hb) c.in_ok-parts.ensures
    in let single = ok_none (first_fault (each (only_rule significance_kind hb) (sections hb))) c.in_ok-significance_section.significance_section (the_only significance_kind hb) c.in_ok-significance_section.ensures
    in let listed = ok_none (first_fault (listing_rule hb)) c.in_ok-listed.listed (marks_of hb (significance hb)) c.in_ok-listed.ensures
    in returned c.args.b.now hb (Ok _) c.in_ok-headers.ensures.1 c.in_ok-headers.ensures.0
    (after_only_listing hb (Ok _) extents.0 contents.0 alone.0 entries.0 related.0 single.0 (
      listed.0,
      record {
        symbols_right = entries.1;
        parts_right = related.1;
        listed_right = listed.1;
        roots_right = c.roots.ensures;
      },
    ))
