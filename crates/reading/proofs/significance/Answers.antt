use Rattle.std.proofs.Common.{ℕ, map, Ok, Some, Option, sym, ap, ◌∙◌, arith}
use Rattle.std.specs.List.{range_with_len}
use Rattle.checklist.specs.Checks.{first_fault}
use Rattle.checklist.proofs.Checks.{ok_none, answer_none}
use Rattle.rules.specs.Rules.{symbols}
use Rattle.rules.specs.Notes.{listed_in, marks_of}
use Rattle.rules.specs.Listing.{significance_kind, significance, listing_of, listing_rule, item_checks}
use Rattle.reading.proofs.Firsts.{only_is, extent_is}
use Rattle.reading.proofs.significance.Goals as goal

pub listing_at-requires : goal.listing_at-requires
listing_at-requires c =
    let b = c.args.object.tables.headers.bytes.now
    in let at = only_is significance_kind b c.in-Some.a (sym c.in-Some.is ∙ c.requires)
    in record {
      below = omega (arith, at.0, c.args.object.tables.headers.headed.count_right);
      inside = extent_is b c.in-Some.a at.0 (λ e. omega (arith, at.1)) (λ e. omega (arith, at.1)) c.args.object.extents;
    }

pub returns : goal.returns
returns c =
    let b = c.args.object.tables.headers.bytes.now
    in let e = sym c.in-Some.is ∙ c.requires
    in let its = listing_of b (Some c.in-Some.a)
    in let read = ok_none (first_fault (item_checks (symbols b).count its)) c.in_ok-marks.marks (map (listed_in b its) (range_with_len 0 1024)) c.in_ok-marks.ensures
    in let none = ap (λ (o : Option ℕ). first_fault (item_checks (symbols b).count (listing_of b o))) (sym e) ∙ read.0
    in let marks = ap Some (read.1 ∙ ap (λ (o : Option ℕ). map (listed_in b (listing_of b o)) (range_with_len 0 1024)) e) ∙ ap (marks_of b) e
    in ap Ok marks ∙ answer_none (first_fault (listing_rule b)) (marks_of b (significance b)) none
