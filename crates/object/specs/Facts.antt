-- What is known of an object that was accepted.
use Rattle.std.specs.Prelude.{◌≡◌, ℕ, ◌+◌, ◌*◌, ◌/◌, ◌%◌, ◌^◌, ◌<◌, ◌≤◌, Bool, true, false, cond, not, ◌&&◌, ◌⊎◌, List, map, length, take, drop, replicate, Some, None, Option, ◌==◌, ◌≢◌, nat_le, nat_lt, refl}
use Rattle.std.proofs.Common.{arith, sym, ap, subst, ◌∙◌, inl, inr}
use Rattle.std.proofs.lemmas.Bool.{or_cases, eqb-true, and_parts, leb-true, ltb-true, not-true, eqb-false, not_from_false}
use Rattle.std.proofs.lemmas.List.{nil_from_length, length-replicate, length-map, length-take, length-drop}
use Rattle.field.specs.Fields.{half}
use Rattle.checklist.specs.Checks.{Check, first_fault, all_hold, each, where_holds}
use Rattle.checklist.proofs.Checks.{hold_left, hold_right, hold_each, passes}
use Rattle.elf.specs.declared.Header.{Header}
use Rattle.elf.specs.declared.Symbol.{Symbol}
use Rattle.elf.specs.declared.Entry.{Entry}
use Rattle.elf.specs.Layout.{sections, place, section, present, apart, has, outside, aligned, entry_at}
use Rattle.rules.specs.declared.Part.{Part}
use Rattle.rules.specs.Rules.{head_rule, identified, extent_rule, content_rule, only_rule, table_checks, table_rule, table_rule_of, table, symbols, symbols_of, symbol, symbol_rule, valued, relocation_rule, part_checks, told_part, entry_rules, entry_rule, reached, in_range, part, relocates, relocating}
use Rattle.rules.specs.Verdict.{accepted, from_extents, from_contents, from_only_table, from_table, from_relocations, from_only_listing}
use Rattle.reading.proofs.Firsts.{first_where_is, only_is, extent_is}
use Rattle.reading.proofs.Parting.{passed}
use Rattle.object.specs.Meaning.{bytes_of, low, body, meaning}
use Rattle.model.specs.Graph.{section_of}
use Rattle.object.specs.Held.{held}

pub record Facts (b : List ℕ) : Type 0 where
  pub sized : 64 ≤ length b
  pub few : sections b ≤ 1024
  pub headers : place b (sections b) ≤ length b
  pub extents : first_fault (each (extent_rule b) (sections b)) ≡ None
  pub contents : all_hold (each (content_rule b) (sections b)) ≡ true
  pub tables : all_hold (table_rule b) ≡ true
  pub relocations : all_hold (each (relocation_rule b) (sections b)) ≡ true

pub facts : (b : List ℕ) → accepted b ≡ true → Facts b
facts b e =
    let n = sections b
    in let head = hold_left (head_rule b) (from_extents b) e
    in let r0 = hold_right (head_rule b) (from_extents b) e
    in let r1 = hold_right (each (extent_rule b) n) (from_contents b) r0
    in let r2 = hold_right (each (content_rule b) n) (from_only_table b) r1
    in let r3 = hold_right (each (only_rule 2 b) n) (from_table b) r2
    in let r4 = hold_right (table_rule b) (from_relocations b) r3
    in let h0 = and_parts (nat_le 64 (length b)) _ head
    in let h1 = and_parts (identified b) _ h0.1
    in let h2 = and_parts (half b 16 == 1) _ h1.1
    in let h3 = and_parts (half b 58 == 64) _ h2.1
    in let h4 = and_parts (nat_le 1 (sections b) && nat_le (sections b) 1024) _ h3.1
    in let h5 = and_parts (nat_le (place b (sections b)) (length b)) true h4.1
    in record {
      sized = leb-true 64 (length b) h0.0;
      few = leb-true (sections b) 1024 (and_parts (nat_le 1 (sections b)) (nat_le (sections b) 1024) h4.0).1;
      headers = leb-true (place b (sections b)) (length b) h5.0;
      extents = passes (each (extent_rule b) n) (hold_left (each (extent_rule b) n) (from_contents b) r0);
      contents = hold_left (each (content_rule b) n) (from_only_table b) r1;
      tables = hold_left (table_rule b) (from_relocations b) r3;
      relocations = hold_left (each (relocation_rule b) n) (from_only_listing b) r4;
    }

-- no file has no sections
empty_none : (b : List ℕ) → length b ≡ 0 → sections b ≡ 0
unfolding half
empty_none b e = ap (λ (x : List ℕ). half x 60) (nil_from_length b e)

-- what a reader holds with a section was accepted
pub held_facts : (b : List ℕ) (s : ℕ) → held b ≡ true → s < sections b → Facts b
held_facts b s h l = go (or_cases (length b == 0) (accepted b) h)
  where
    go : ((length b == 0) ≡ true) ⊎ (accepted b ≡ true) → Facts b
    go (inl e) = absurd (omega (arith, empty_none b (eqb-true (length b) 0 e)))
    go (inr e) = facts b e

-- what a reader holds that is too short for a header has no sections
pub held_short : (b : List ℕ) → held b ≡ true → length b < 62 → 0 ≡ sections b
held_short b h l = go (or_cases (length b == 0) (accepted b) h)
  where
    go : ((length b == 0) ≡ true) ⊎ (accepted b ≡ true) → 0 ≡ sections b
    go (inl e) = sym (empty_none b (eqb-true (length b) 0 e))
    go (inr e) = absurd (omega (arith, (facts b e).sized))

pub held_few : (b : List ℕ) → held b ≡ true → sections b ≤ 1024
held_few b h = go (or_cases (length b == 0) (accepted b) h)
  where
    go : ((length b == 0) ≡ true) ⊎ (accepted b ≡ true) → sections b ≤ 1024
    go (inl e) = omega (arith, empty_none b (eqb-true (length b) 0 e))
    go (inr e) = (facts b e).few

pub header_ends : (b : List ℕ) (s : ℕ) → Facts b → s < sections b → place b s + 64 ≤ length b
header_ends b s f l = omega (arith, f.headers)

-- the checks that are made where a condition holds
opened : (x : Bool) (cs : List Check) → x ≡ true → all_hold (where_holds x cs) ≡ true → all_hold cs ≡ true
opened true cs p e = e
opened false cs p e = let z : ◌≡◌ {A = ℕ} 0 1 = cc in absurd (omega arith)

-- a present section
pub record Sound (b : List ℕ) (h : Header) : Type 0 where
  pub flags : h.flags < 2 ^ 32
  pub size : h.size ≤ 65535
  pub alignment : aligned h.alignment ≡ true
  pub ends : (h.kind ≢ 8) → h.offset + h.size ≤ length b

present_kind : (h : Header) → present h ≡ true → h.kind ≢ 0
present_kind h e z =
    let q = and_parts (has h.flags 2) (not (apart h.kind)) e
    in let a = not-true (apart h.kind) q.1
    in let y : apart 0 ≡ false = ap apart (sym z) ∙ a
    in let o : ◌≡◌ {A = ℕ} 0 1 = cc in omega arith

pub sound : (b : List ℕ) (s : ℕ) → Facts b → s < sections b → present (section b s) ≡ true → Sound b (section b s)
sound b s f l p =
    let a = opened (present (section b s)) _ p (hold_each (content_rule b) (sections b) s l f.contents)
    in let a0 = and_parts (nat_lt (section b s).flags (2 ^ 32)) _ a
    in let a1 = and_parts (nat_le (section b s).size 65535) _ a0.1
    in let a2 = and_parts (aligned (section b s).alignment) true a1.1
    in record {
      flags = ltb-true (section b s).flags (2 ^ 32) a0.0;
      size = leb-true (section b s).size 65535 a1.0;
      alignment = a2.0;
      ends = λ k. extent_is b s l (present_kind (section b s) p) k f.extents;
    }

-- as many bytes as the header says
pub bytes_length : (b : List ℕ) (h : Header) → Sound b h → length (bytes_of b h) ≡ h.size
bytes_length b h w = go (h.kind == 8) refl
  where
    go : (t : Bool) → (h.kind == 8) ≡ t → length (cond t (replicate h.size 0) (map low (take h.size (drop h.offset b)))) ≡ h.size
    go true e = length-replicate {A = ℕ} h.size 0
    go false e =
        let ends = w.ends (λ k. absurd (omega (arith, eqb-false h.kind 8 e k)))
        in simp (length-map, length-take, length-drop) (omega arith)

-- the section with the relocations of a present section
pub record Whole (b : List ℕ) (s r : ℕ) : Type 0 where
  pub below : r < sections b
  pub target : (section b r).info ≡ s
  pub here : present (section b s) ≡ true
  pub few : (section b r).size / 24 ≤ 65535
  pub ends : (section b r).offset + (section b r).size ≤ length b
  pub entries : all_hold (each (entry_rule b (section b s).size (section b r).offset) ((section b r).size / 24)) ≡ true

pub whole : (b : List ℕ) (s r : ℕ) → Facts b → part b s (sections b) ≡ Some r → Whole b s r
whole b s r f e =
    let at = first_where_is (relocates b s) (sections b) r e
    in let q = and_parts (relocating (section b r)) _ at.1
    in let q1 = and_parts ((section b r).info == s) (present (section b s)) q.1
    in let same : (section b r).info ≡ s = eqb-true (section b r).info s q1.0
    in let here : present (section b (section b r).info) ≡ true = ap (λ (x : ℕ). present (section b x)) same ∙ q1.1
    in let all = hold_each (relocation_rule b) (sections b) r at.0 f.relocations
    in let fit = passed b r (place b r) (section b r) q.0 here (hold_left (part_checks b r (place b r) (section b r)) (entry_rules b (told_part b (section b r))) all)
    in let told : told_part b (section b r) ≡ Some (record { target = (section b r).info; size = (section b (section b r).info).size; from = (section b r).offset; count = (section b r).size / 24 })
    = told_yes (relocating (section b r)) (present (section b (section b r).info)) _ q.0 here
    in let entries = subst (λ (o : Option Part). all_hold (entry_rules b o) ≡ true) told (hold_right (part_checks b r (place b r) (section b r)) (entry_rules b (told_part b (section b r))) all)
    in record {
      below = at.0;
      target = same;
      here = q1.1;
      few = fit.few;
      ends = extent_is b r at.0 (λ z. omega (arith, fit.kind)) (λ z. omega (arith, fit.kind)) f.extents;
      entries = subst (λ (x : ℕ). all_hold (each (entry_rule b (section b x).size (section b r).offset) ((section b r).size / 24)) ≡ true) same entries;
    }
  where
    told_yes : (x y : Bool) (m : Part) → x ≡ true → y ≡ true → cond (x && y) (Some m) None ≡ Some m
    told_yes true true m p q = refl
    told_yes true false m p q = let z : ◌≡◌ {A = ℕ} 0 1 = cc in absurd (omega arith)
    told_yes false y m p q = let z : ◌≡◌ {A = ℕ} 0 1 = cc in absurd (omega arith)

-- an entry of such a section, and its symbol
pub record Entered (b : List ℕ) (size : ℕ) (e : Entry) : Type 0 where
  pub offset : e.offset < size
  pub symbol_below : e.symbol < (symbols b).count
  pub reaches : reached b (symbol b e.symbol) ≡ true
  pub range : in_range e.addend ≡ true

pub entered : (b : List ℕ) (s r j : ℕ) → Whole b s r → j < (section b r).size / 24
    → Entered b (section b s).size (entry_at b ((section b r).offset + 24 * j))
entered b s r j w l =
    let e = entry_at b ((section b r).offset + 24 * j)
    in let a = hold_each (entry_rule b (section b s).size (section b r).offset) ((section b r).size / 24) j l w.entries
    in let a0 = and_parts (nat_lt e.offset (section b s).size) _ a
    in let a1 = and_parts (nat_lt e.symbol (symbols b).count && reached b (symbol b e.symbol)) _ a0.1
    in let a2 = and_parts (in_range e.addend) true a1.1
    in let a3 = and_parts (nat_lt e.symbol (symbols b).count) (reached b (symbol b e.symbol)) a1.0
    in record {
      offset = ltb-true e.offset (section b s).size a0.0;
      symbol_below = ltb-true e.symbol (symbols b).count a3.0;
      reaches = a3.1;
      range = a2.0;
    }

-- the symbols
pub record Tables (b : List ℕ) : Type 0 where
  pub few : (symbols b).count ≤ 65536
  pub ends : (symbols b).from + 24 * (symbols b).count ≤ length b
  pub each_one : (k : ℕ) → k < (symbols b).count → all_hold (symbol_rule b (symbols b).from k) ≡ true

pub tables : (b : List ℕ) → Facts b → Tables b
tables b f =
    let r = go (table b) refl f.tables in record { few = r.0; ends = r.1; each_one = r.2 }
  where
    go : (o : Option ℕ) → table b ≡ o → all_hold (table_rule_of b o) ≡ true
        → ((symbols_of b o).count ≤ 65536) × ((symbols_of b o).from + 24 * (symbols_of b o).count ≤ length b)
        × ((k : ℕ) → k < (symbols_of b o).count → all_hold (symbol_rule b (symbols_of b o).from k) ≡ true)
    go None e a = (omega arith, omega arith, λ k l. absurd (omega arith))
    go (Some t) e a =
        let a0 = hold_left (table_checks 65536 (place b t) (section b t)) (each (symbol_rule b (section b t).offset) ((section b t).size / 24)) a
        in let a1 = and_parts ((section b t).stride == 24) _ a0
        in let a2 = and_parts ((section b t).size % 24 == 0) _ a1.1
        in let a3 = and_parts (nat_le ((section b t).size / 24) 65536) true a2.1
        in let at = only_is 2 b t (sym e)
        in let ends = extent_is b t at.0 (λ z. omega (arith, at.1)) (λ z. omega (arith, at.1)) f.extents
        in (
          leb-true ((section b t).size / 24) 65536 a3.0,
          omega arith,
          λ k l. hold_each (symbol_rule b (section b t).offset) ((section b t).size / 24) k l
              (hold_right (table_checks 65536 (place b t) (section b t)) (each (symbol_rule b (section b t).offset) ((section b t).size / 24)) a),
        )

-- a symbol in a present section has its value within
pub value_within : (b : List ℕ) (k : ℕ) → Tables b → k < (symbols b).count → outside (symbol b k).section ≡ false
    → present (section b (symbol b k).section) ≡ true → (symbol b k).value ≤ (section b (symbol b k).section).size
value_within b k w l o p =
    let a = opened (not (outside (symbol b k).section)) _ (not_from_false (outside (symbol b k).section) o) (w.each_one k l)
    in let a0 = and_parts (nat_lt (symbol b k).section 0xff00) _ a
    in let a1 = and_parts (nat_lt (symbol b k).section (sections b)) _ a0.1
    in let a2 = and_parts (valued b (symbol b k)) true a1.1
    in go (or_cases (not (present (section b (symbol b k).section))) (nat_le (symbol b k).value (section b (symbol b k).section).size) a2.0)
  where
    go : (not (present (section b (symbol b k).section)) ≡ true) ⊎ (nat_le (symbol b k).value (section b (symbol b k).section).size ≡ true)
        → (symbol b k).value ≤ (section b (symbol b k).section).size
    go (inl e) = let f = not-true (present (section b (symbol b k).section)) e in let z : ◌≡◌ {A = ℕ} 0 1 = cc in absurd (omega arith)
    go (inr e) = leb-true (symbol b k).value (section b (symbol b k).section).size e

-- a symbol that is not outside is in a present section
pub inside : (b : List ℕ) (y : Symbol) → reached b y ≡ true → outside y.section ≡ false
    → (y.section < sections b) × (present (section b y.section) ≡ true)
inside b y e o = go (or_cases (outside y.section) (nat_lt y.section (sections b) && present (section b y.section)) e)
  where
    go : (outside y.section ≡ true) ⊎ ((nat_lt y.section (sections b) && present (section b y.section)) ≡ true)
        → (y.section < sections b) × (present (section b y.section) ≡ true)
    go (inl t) = let z : ◌≡◌ {A = ℕ} 0 1 = cc in absurd (omega arith)
    go (inr t) =
        let q = and_parts (nat_lt y.section (sections b)) (present (section b y.section)) t
        in (ltb-true y.section (sections b) q.0, q.1)

-- a present section: its header, and what it is in the graph
pub record Seen (b : List ℕ) (s : ℕ) (h : Header) : Type 0 where
  pub below : s < sections b
  pub few : s < 1024
  pub header : h ≡ section b s
  pub sound : Sound b h
  pub aligned : h.alignment < 2 ^ 32
  pub body : section_of (meaning b) s ≡ Some (body b s)

-- the section with the relocations of section s, by its header
pub record PartSeen (b : List ℕ) (s : ℕ) (p : Header) : Type 0 where
  pub number : ℕ
  pub is_part : part b s (sections b) ≡ Some number
  pub header : p ≡ section b number
  pub few : p.size / 24 ≤ 65535
  pub ends : p.offset + p.size ≤ length b
  pub whole : Whole b s number
