-- The rules one after another.
use Rattle.std.proofs.Common.{◌≡◌, ℕ, ◌+◌, ◌*◌, ◌≤◌, Bool, true, ◌&&◌, eqb, leb, List, ◌++◌, map, length, take, drop, Some, None, Ok, Err, Option, Result, sym, refl, subst, ap, ◌∙◌, arith}
use Rattle.std.specs.List.{range_with_len}
use Rattle.std.proofs.lemmas.Bool.{and_parts, leb-true}
use Rattle.fault.specs.declared.Fault.{Fault}
use Rattle.field.specs.Fields.{half, long}
use Rattle.checklist.specs.Checks.{Check, first_fault, each, answer}
use Rattle.checklist.proofs.Checks.{append_none, append_some, accepts}
use Rattle.elf.specs.Layout.{sections, place}
use Rattle.rules.specs.declared.Notes.{Notes}
use Rattle.rules.specs.Known.{Headed, Tabled}
use Rattle.rules.specs.Ending.{Ends}
use Rattle.rules.specs.Notes.{listed_in}
use Rattle.rules.specs.Rules.{head_rule, identified, extent_rule, content_rule, only_rule, table_rule, relocation_rule, table, symbols, symbols_of}
use Rattle.rules.specs.Verdict.{checks, from_extents, from_contents, from_only_table, from_table, from_relocations, from_only_listing}
use Rattle.rules.specs.Listing.{significance_kind, significance, listing_of, listing_rule, items, item_checks}
use Rattle.reading.proofs.Firsts.{only_is, extent_is}

pub ends_err : (b : List ℕ) (cs ds : List Check) (f : Fault) → first_fault cs ≡ Some f → Ends b (cs ++ ds) (Err f)
ends_err b cs ds f e = append_some cs ds f e

pub ends_on : (b : List ℕ) (cs ds : List Check) (r : Result Notes Fault) → first_fault cs ≡ None → Ends b ds r → Ends b (cs ++ ds) r
ends_on b cs ds (Ok x) e w = (append_none cs ds e ∙ w.0, w.1)
ends_on b cs ds (Err f) e w = append_none cs ds e ∙ w

-- an object, by the bytes that its headers hold, whose own header meets the rules
pub returned : (b hb : List ℕ) (r : Result Notes Fault) → hb ≡ b → first_fault (head_rule b) ≡ None → Ends hb (from_extents hb) r → Ends b (checks b) r
returned b hb r q h w = ends_on b (head_rule b) (from_extents b) r h (subst (λ (x : List ℕ). Ends x (from_extents x) r) q w)

-- the end of a reading after each rule that was met
module _ (b : List ℕ) (r : Result Notes Fault) (extents : first_fault (each (extent_rule b) (sections b)) ≡ None) where
  pub after_extents : Ends b (from_contents b) r → Ends b (from_extents b) r
  after_extents w = ends_on b (each (extent_rule b) (sections b)) (from_contents b) r extents w

  module _ (contents : first_fault (each (content_rule b) (sections b)) ≡ None) where
    pub after_contents : Ends b (from_only_table b) r → Ends b (from_extents b) r
    after_contents w = after_extents (ends_on b (each (content_rule b) (sections b)) (from_only_table b) r contents w)

    module _ (alone : first_fault (each (only_rule 2 b) (sections b)) ≡ None) where
      pub after_only_table : Ends b (from_table b) r → Ends b (from_extents b) r
      after_only_table w = after_contents (ends_on b (each (only_rule 2 b) (sections b)) (from_table b) r alone w)

      module _ (entries : first_fault (table_rule b) ≡ None) where
        pub after_table : Ends b (from_relocations b) r → Ends b (from_extents b) r
        after_table w = after_only_table (ends_on b (table_rule b) (from_relocations b) r entries w)

        module _ (related : first_fault (each (relocation_rule b) (sections b)) ≡ None) where
          pub after_relocations : Ends b (from_only_listing b) r → Ends b (from_extents b) r
          after_relocations w = after_table (ends_on b (each (relocation_rule b) (sections b)) (from_only_listing b) r related w)

          module _ (single : first_fault (each (only_rule significance_kind b) (sections b)) ≡ None) where
            pub after_only_listing : Ends b (listing_rule b) r → Ends b (from_extents b) r
            after_only_listing w = after_relocations (ends_on b (each (only_rule significance_kind b) (sections b)) (listing_rule b) r single w)

-- the header of an object that passed
pub headed : (b : List ℕ) → first_fault (head_rule b) ≡ None → Headed b (long b 40) (sections b)
headed b e =
    let a = accepts (head_rule b) e
    in let a0 = and_parts (leb 64 (length b)) _ a
    in let a1 = and_parts (identified b) _ a0.1
    in let a2 = and_parts (eqb (half b 16) 1) _ a1.1
    in let a3 = and_parts (eqb (half b 58) 64) _ a2.1
    in let a4 = and_parts (leb 1 (sections b) && leb (sections b) 1024) _ a3.1
    in let a5 = and_parts (leb (place b (sections b)) (length b)) true a4.1
    in record {
      first_right = refl;
      count_right = refl;
      ends = leb-true (place b (sections b)) (length b) a5.0;
      few = leb-true (sections b) 1024 (and_parts (leb 1 (sections b)) (leb (sections b) 1024) a4.0).1;
    }

-- the symbols of an object stand in it
pub tabled : (b : List ℕ) → first_fault (each (extent_rule b) (sections b)) ≡ None → Tabled b (symbols b)
tabled b f = record { symbols_right = refl; ends = go (table b) refl }
  where
    go : (o : Option ℕ) → table b ≡ o → (symbols_of b o).from + 24 * (symbols_of b o).count ≤ length b
    go None e = omega arith
    go (Some t) e =
        let at = only_is 2 b t (sym e)
        in let ends = extent_is b t at.0 (λ z. omega (arith, at.1)) (λ z. omega (arith, at.1)) f
        in omega arith

-- without an address-significance table nothing is listed
pub unlisted : (b : List ℕ) → None ≡ significance b → first_fault (listing_rule b) ≡ None
unlisted b e = ap (λ (o : Option ℕ). first_fault (item_checks (symbols b).count (listing_of b o))) (sym e)

-- what is read of an address-significance table in the bytes xs, whose numbers are symbols of b
abbrev pub listing_read : List ℕ → List ℕ → ℕ → ℕ → Result (List Bool) Fault
listing_read b xs from size =
    answer
    (first_fault (item_checks (symbols b).count (items (Some 0) from (take size (drop from xs)))))
    (map (listed_in b (items (Some 0) from (take size (drop from xs)))) (range_with_len 0 1024))
