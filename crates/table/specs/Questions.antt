-- Every question is answered by the graph that the text tells.
use Rattle.std.specs.Prelude.{◌≡◌, ℕ, ◌+◌, ◌-◌, ◌*◌, ◌^◌, ◌<◌, ◌≤◌, Bool, cond, true, false, not, ◌⊎◌, List, [], ◌∷◌, ◌++◌, map, length, take, drop, ℤ, pos, is_some, Some, None, Err, Option, Result, unwrap_or, nat_lt, slice_index, slice_index_or, refl}
use Rattle.std.proofs.Common.{sym, ap, subst, ◌∙◌, inl, inr, arith, zero-add}
use Rattle.std.specs.List.{flat_map, slice_get, AllByRecursion}
use Rattle.std.specs.Option.{option_map}
use Rattle.fault.specs.declared.Fault.{Fault}
use Rattle.fault.specs.Refusal.{ok_unless}
use Rattle.std.proofs.Math.Seq.{take-nil}
use Rattle.std.proofs.lemmas.List.{append_assoc, get_or-replicate, get_or_past, take_at}
use Rattle.std.proofs.ByRecursion.{All-get_or, All-weaker}
use Rattle.std.proofs.lemmas.Option.{slice_get-get_or, slice_get_past}
use Rattle.std.proofs.lemmas.Bool.{cases_lt, lt-ltb, le-ltb, cond-false}
use Rattle.std.specs.Fmt.{signed_decimal}
use Rattle.column.specs.Columns.{columns, read_column}
use Rattle.column.proofs.Columns.{columns_at, column_reads}
use Rattle.model.specs.declared.Record.{Record}
use Rattle.model.specs.declared.Relocation.{Relocation}
use Rattle.model.specs.declared.Target.TheVariants.{Section}
use Rattle.model.specs.Graph.{Body, record_in, section_of, told_record, told_byte, told_relocation}
use Rattle.graph.specs.Bytes.{bytes_in, bytes_of}
use Rattle.lines.specs.Lines.{lines}
use Rattle.row_part.specs.declared.Cause.{Cause}
use Rattle.row_part.specs.declared.Cause.TheVariants.{Letter}
use Rattle.row.specs.Entry.{Entry, header, section, relocation, end, numbers, render, Ranged}
use Rattle.row.specs.Reading.{read_row}
use Rattle.row.proofs.Rows.{fits}
use Rattle.row_part.proofs.Parts.{Fits}
use Rattle.layout.specs.Layout.{with_relocations, with_section, with_sections, with_roots, present_count, bytes_length, relocation_place, entries, text_of, Formed}
use Rattle.layout.specs.Reading.{bad_row, graph_of, named, absent_in, dangles, dangling_from, dangling_at}
use Rattle.layout.proofs.Texts.{row_itself, lines_text, formed_text}
use Rattle.layout.proofs.Ranges.{ranged_entries, count_below}
use Rattle.layout.proofs.Aims.{present_below}
use Rattle.table.specs.Notes.{note, noted, no_notes, starts_of, unnoted, target_on, targets_from}
use Rattle.table.specs.Places.{sections_told, roots_told, record_told, relocation_told, root_told, rows_from, byte_place, byte_told, size_in, size_told, byte_in, byte_rows, byte_rows_in, relocation_in, root_in}
use Rattle.table.specs.ByteRows.{rows_before, rows_length}
use Rattle.table.specs.Spots.{Stands, stands_next, notes, Spot, sections_noted, past_sections}
use Rattle.table.specs.Distances.{stands_read, stands_after, past_bytes, byte_spot, relocation_spot, root_spot, roots_place}

noted_notes : (at : ℕ) (es : List Entry) (xs : List (Option ℕ)) → AllByRecursion Ranged es → noted at (map render es) xs ≡ notes at es xs
noted_notes at [] xs r = refl
noted_notes at (e ∷ es) xs r =
    ap (λ (x : Result Entry Cause). noted (at + length (render e)) (map render es) (note x at xs)) (row_itself e r.0)
    ∙ noted_notes (at + length (render e)) es _ r.1

unset : (v : ℕ) → slice_index_or no_notes v None ≡ None
unset v = go (cases_lt v 1024)
  where
    go : (v < 1024) ⊎ (1024 ≤ v) → slice_index_or no_notes v None ≡ None
    go (inl l) = get_or-replicate 1024 v None None l
    go (inr l) = get_or_past no_notes v None l

-- the fourth number of a section's row is its size
size_column : (s : ℕ) (r : Record) (t : List ℕ) → Ranged (section s r) → read_column (take 12 (drop 37 (render (section s r) ++ t))) ≡ Some (pos r.size)
size_column s r t h =
    let zs : List ℤ = numbers (section s r) in
    let small : r.size < 2 ^ 16 = h.1.size in
    ap (λ (xs : List ℕ). read_column (take 12 (drop 36 xs))) (append_assoc (columns 12 zs) (10 ∷ []) t)
    ∙ ap read_column (columns_at 12 3 zs (10 ∷ t) (omega arith) (All-weaker (Fits 12) (λ z. length (signed_decimal z) ≤ 12) (λ z f. f.0) zs (fits (section s r) h)))
    ∙ column_reads 12 (pos r.size) (omega arith)

-- no text begins with no row
pub none_read : read_row [] ≡ Err Letter
unfolding read_row
none_read = refl

-- where there is no row there is no size, and so no byte
pub none_byte : (i : ℕ) → byte_in [] i ≡ None
unfolding read_column
none_byte i = cond-false (nat_lt i 0) _ _ (le-ltb i 0 (omega arith))

-- nor rows of bytes
pub no_rows : byte_rows_in [] ≡ byte_rows []
unfolding byte_rows_in byte_rows
no_rows = take-nil _

-- a text whose rows form
module _ (t : List ℕ) (formed : bad_row t ≡ None) where
  laws : Formed (graph_of t)
  laws = (formed_text t formed).1.0

  text : t ≡ text_of (graph_of t)
  text = (formed_text t formed).0

  rows : lines t ≡ map render (entries (graph_of t))
  rows = ap lines text ∙ lines_text (entries (graph_of t)) (ranged_entries (graph_of t) laws)

  stands : Stands t 0 (entries (graph_of t))
  stands = text

  first_ranged : Ranged (header (length (graph_of t).sections) (length (graph_of t).roots))
  first_ranged = (laws.few, laws.few_roots)

  after_first : Stands t 26 (with_sections 0 (graph_of t).sections (with_roots (graph_of t).roots (end (present_count (graph_of t).sections) ∷ [])))
  after_first = stands_after t 0 (header (length (graph_of t).sections) (length (graph_of t).roots)) _ first_ranged stands

  -- where each section's row begins
  pub spot_at : (s : ℕ) → Spot t s (section_of (graph_of t) s) (slice_index_or (starts_of t) s None)
  spot_at s =
      let k : ℕ = present_count (graph_of t).sections in
      let e : Entry = header (length (graph_of t).sections) (length (graph_of t).roots) in
      let few : 0 + length (graph_of t).sections ≤ length no_notes = omega (arith, laws.few) in
      let n = sections_noted t 0 (graph_of t).sections (graph_of t).roots k (0 + length (render e)) no_notes
      (stands_next t 0 e _ stands) few (λ v l. unset v) in
      let same : starts_of t ≡ notes 0 (entries (graph_of t)) no_notes =
      ap (λ (ls : List (List ℕ)). noted 0 ls no_notes) rows ∙ noted_notes 0 (entries (graph_of t)) no_notes (ranged_entries (graph_of t) laws) in
      subst (λ (xs : List (Option ℕ)). Spot t s (section_of (graph_of t) s) (slice_index_or xs s None)) (sym same)
      (subst (λ (u : ℕ). Spot t u (slice_index_or (graph_of t).sections s None) (slice_index_or (notes 0 (entries (graph_of t)) no_notes) u None)) (zero-add s) (n.spots s))

  pub sections_right : sections_told (read_row t) ≡ length (graph_of t).sections
  sections_right = ap sections_told (stands_read t 0 (header (length (graph_of t).sections) (length (graph_of t).roots)) _ first_ranged stands)

  pub roots_right : roots_told (read_row t) ≡ length (graph_of t).roots
  roots_right = ap roots_told (stands_read t 0 (header (length (graph_of t).sections) (length (graph_of t).roots)) _ first_ranged stands)

  -- the laws of a present section, for its rows
  section_ranged : (s : ℕ) (b : Body) → section_of (graph_of t) s ≡ Some b → Ranged (section s (record_in b))
  section_ranged s b e =
      let l = laws.bodies s b e in
      let here : s < length (graph_of t).sections = present_below (graph_of t).sections s (ap is_some e) in
      let few : length (graph_of t).sections ≤ 1024 = laws.few in
      (omega arith, record { flags = l.flags; alignment = l.alignment; size = l.size; relocations = l.few })

  relocations_ranged : (s : ℕ) (b : Body) → section_of (graph_of t) s ≡ Some b → AllByRecursion (λ x. Ranged (relocation x)) b.relocations
  relocations_ranged s b e =
      let l = laws.bodies s b e in
      let few : length b.bytes < 2 ^ 16 = l.size in
      All-weaker _ (λ x. Ranged (relocation x))
      (λ x r. record { offset = omega (arith, r.offset); kind = r.kind; aimed = r.aimed; low = r.low; high = r.high })
      b.relocations l.relocations

  -- the text from a section's row on: none, or the section's rows
  abbrev Rows : ℕ → Option Body → List ℕ → Type 0
  Rows s None u = u ≡ []
  Rows s (Some b) u = (rest : List Entry) × Stands u 0 (with_section s b rest)

  rows_at : (s : ℕ) → Rows s (section_of (graph_of t) s) (rows_from t (slice_index_or (starts_of t) s None))
  rows_at s = go (section_of (graph_of t) s) (slice_index_or (starts_of t) s None) (spot_at s)
    where
      go : (o : Option Body) (p : Option ℕ) → Spot t s o p → Rows s o (rows_from t p)
      go None p h = ap (rows_from t) h
      go (Some b) p h = (h.2, ap (rows_from t) h.1 ∙ h.3)

  record_row : (s : ℕ) (u : List ℕ) (o : Option Body) → section_of (graph_of t) s ≡ o → Rows s o u → record_told (read_row u) ≡ told_record o
  record_row s u None e h = ap (λ (v : List ℕ). record_told (read_row v)) h ∙ ap record_told none_read
  record_row s u (Some b) e h = ap record_told (stands_read u 0 (section s (record_in b)) _ (section_ranged s b e) h.1)

  pub record_right : (s : ℕ) → record_told (read_row (rows_from t (slice_index_or (starts_of t) s None))) ≡ told_record (section_of (graph_of t) s)
  record_right s = record_row s _ (section_of (graph_of t) s) refl (rows_at s)

  byte_value : (n : ℕ) → n < 256 → byte_told (Some (pos n)) ≡ Some n
  byte_value n h = ap (λ (c : Bool). cond c (Some n) None) (lt-ltb n 256 h)

  size_value : (n : ℕ) → n < 2 ^ 16 → unwrap_or (size_told (Some (pos n))) 0 ≡ n
  size_value n h = ap (λ (c : Bool). unwrap_or (cond c (Some n) None) 0) (lt-ltb n 65536 h)

  size_row : (s : ℕ) (b : Body) (u : List ℕ) → section_of (graph_of t) s ≡ Some b → Rows s (Some b) u → size_in u ≡ length b.bytes
  size_row s b u e h =
      ap size_in h.1
      ∙ ap (λ (z : Option ℤ). unwrap_or (size_told z) 0) (size_column s (record_in b) _ (section_ranged s b e))
      ∙ size_value (length b.bytes) (laws.bodies s b e).size

  byte_row : (s : ℕ) (b : Body) (u : List ℕ) (i : ℕ) → section_of (graph_of t) s ≡ Some b → Rows s (Some b) u → byte_in u i ≡ slice_get b.bytes i
  byte_row s b u i e h =
      ap (λ (n : ℕ). cond (nat_lt i n) (byte_told (read_column (take 4 (drop (byte_place i) u)))) None) (size_row s b u e h) ∙ go (cases_lt i (length b.bytes))
    where
      values : AllByRecursion (λ x. x < 2 ^ 8) b.bytes
      values = (laws.bodies s b e).bytes

      go : (i < length b.bytes) ⊎ (length b.bytes ≤ i)
          → cond (nat_lt i (length b.bytes)) (byte_told (read_column (take 4 (drop (byte_place i) u)))) None ≡ slice_get b.bytes i
      go (inl l) =
          ap (λ (c : Bool). cond c (byte_told (read_column (take 4 (drop (byte_place i) u)))) None) (lt-ltb i (length b.bytes) l)
          ∙ ap byte_told (byte_spot (length b.bytes) u 74 b.bytes _ i (omega arith) l values (stands_after u 0 (section s (record_in b)) _ (section_ranged s b e) h.1))
          ∙ byte_value (slice_index b.bytes i) (All-get_or (λ x. x < 2 ^ 8) b.bytes i 0 l values)
          ∙ sym (slice_get-get_or b.bytes i 0 l)
      go (inr l) =
          ap (λ (c : Bool). cond c (byte_told (read_column (take 4 (drop (byte_place i) u)))) None) (le-ltb i (length b.bytes) l)
          ∙ sym (slice_get_past b.bytes i l)

  pub byte_right : (s i : ℕ) → byte_in (rows_from t (slice_index_or (starts_of t) s None)) i ≡ told_byte (section_of (graph_of t) s) i
  byte_right s i = go (section_of (graph_of t) s) refl (rows_from t (slice_index_or (starts_of t) s None)) (rows_at s)
    where
      go : (o : Option Body) → section_of (graph_of t) s ≡ o → (u : List ℕ) → Rows s o u → byte_in u i ≡ told_byte o i
      go None e u h = ap (λ (v : List ℕ). byte_in v i) h ∙ none_byte i
      go (Some b) e u h = byte_row s b u i e h

  -- the rows of a section's bytes

  byte_rows_row : (s : ℕ) (b : Body) (u : List ℕ) → section_of (graph_of t) s ≡ Some b → Rows s (Some b) u → byte_rows_in u ≡ byte_rows b.bytes
  unfolding byte_rows_in
  byte_rows_row s b u e h =
      let rest : List Entry = with_relocations b.relocations h.0 in
      let there : drop 74 u ≡ byte_rows b.bytes ++ flat_map render rest =
      stands_after u 0 (section s (record_in b)) _ (section_ranged s b e) h.1 ∙ rows_before b.bytes rest in
      let long : size_in u ≡ length b.bytes = size_row s b u e h in
      ap (λ (n : ℕ). take (bytes_length n) (drop 74 u)) long
      ∙ ap (take (bytes_length (length b.bytes))) there
      ∙ take_at (byte_rows b.bytes) (flat_map render rest) (bytes_length (length b.bytes)) (rows_length b.bytes (laws.bodies s b e).bytes)

  pub byte_rows_right : (s : ℕ) → byte_rows_in (rows_from t (slice_index_or (starts_of t) s None)) ≡ byte_rows (bytes_of (graph_of t) s)
  byte_rows_right s = go (section_of (graph_of t) s) refl (rows_from t (slice_index_or (starts_of t) s None)) (rows_at s)
    where
      go : (o : Option Body) → section_of (graph_of t) s ≡ o → (u : List ℕ) → Rows s o u → byte_rows_in u ≡ byte_rows (bytes_in o)
      go None e u h = ap byte_rows_in h ∙ no_rows
      go (Some b) e u h = byte_rows_row s b u e h

  relocation_row : (s : ℕ) (b : Body) (u : List ℕ) (j : ℕ) → section_of (graph_of t) s ≡ Some b → Rows s (Some b) u → relocation_in u (Some (record_in b)) j ≡ slice_get b.relocations j
  relocation_row s b u j e h = go (slice_get b.relocations j) refl (cases_lt j (length b.relocations))
    where
      answer : ℕ → Option Relocation
      answer p = relocation_told (read_row (drop p u))

      there : Stands u (74 + bytes_length (length b.bytes)) (with_relocations b.relocations h.0)
      there =
          past_bytes (length b.bytes) u 74 b.bytes _ (omega arith) (laws.bodies s b e).bytes
          (stands_after u 0 (section s (record_in b)) _ (section_ranged s b e) h.1)

      go : (o : Option Relocation) → slice_get b.relocations j ≡ o → (j < length b.relocations) ⊎ (length b.relocations ≤ j)
          → cond (nat_lt j (length b.relocations)) (relocation_told (read_row (drop (relocation_place (length b.bytes) j) u))) None ≡ o
      go o f (inr l) =
          ap (λ (c : Bool). cond c (relocation_told (read_row (drop (relocation_place (length b.bytes) j) u))) None) (le-ltb j (length b.relocations) l)
          ∙ sym (slice_get_past b.relocations j l) ∙ f
      go None f (inl l) =
          let some : slice_get b.relocations j ≡ Some (slice_index_or b.relocations j (record { offset = 0; kind = 0; target = Section 0; displacement = pos 0 })) = slice_get-get_or b.relocations j _ l in
          absurd (let z : ◌≡◌ {A = ℕ} 0 1 = cc in omega arith)
      go (Some r) f (inl l) =
          ap (λ (c : Bool). cond c (relocation_told (read_row (drop (relocation_place (length b.bytes) j) u))) None) (lt-ltb j (length b.relocations) l)
          ∙ ap (λ (p : ℕ). relocation_told (read_row (drop p u))) (let p : relocation_place (length b.bytes) j ≡ (74 + bytes_length (length b.bytes)) + 62 * j = omega arith in p)
          ∙ ap relocation_told (relocation_spot u (74 + bytes_length (length b.bytes)) b.relocations h.0 j r (relocations_ranged s b e) f there)

  pub relocation_right : (s j : ℕ) → relocation_in (rows_from t (slice_index_or (starts_of t) s None)) (told_record (section_of (graph_of t) s)) j ≡ told_relocation (section_of (graph_of t) s) j
  relocation_right s j = go (section_of (graph_of t) s) refl (rows_from t (slice_index_or (starts_of t) s None)) (rows_at s)
    where
      go : (o : Option Body) → section_of (graph_of t) s ≡ o → (u : List ℕ) → Rows s o u → relocation_in u (told_record o) j ≡ told_relocation o j
      go None e u h = refl
      go (Some b) e u h = relocation_row s b u j e h

  pub root_right : (j : ℕ) → root_in t (length (graph_of t).roots) j ≡ slice_get (graph_of t).roots j
  root_right j =
      let ts : List ℕ = (graph_of t).roots in
      let k : ℕ = present_count (graph_of t).sections in
      let few : k ≤ 1024 = omega (arith, count_below (graph_of t).sections, laws.few) in
      let p = past_sections t 0 (graph_of t).sections (with_roots ts (end k ∷ [])) 26 after_first in
      go (slice_get ts j) refl (cases_lt j (length ts)) p.0 (roots_place t p.0 ts k laws.rooted few p.1) p.1
    where
      go : (o : Option ℕ) → slice_get (graph_of t).roots j ≡ o → (j < length (graph_of t).roots) ⊎ (length (graph_of t).roots ≤ j)
          → (at : ℕ) → at + 14 * (length (graph_of t).roots + 1) ≡ length t
          → Stands t at (with_roots (graph_of t).roots (end (present_count (graph_of t).sections) ∷ []))
          → root_in t (length (graph_of t).roots) j ≡ o
      go o f (inr l) at long st =
          ap (λ (c : Bool). cond c (root_told (read_row (drop (length t - 14 * ((length (graph_of t).roots - j) + 1)) t))) None) (le-ltb j (length (graph_of t).roots) l)
          ∙ sym (slice_get_past (graph_of t).roots j l) ∙ f
      go None f (inl l) at long st =
          let some : slice_get (graph_of t).roots j ≡ Some (slice_index (graph_of t).roots j) = slice_get-get_or (graph_of t).roots j 0 l in
          absurd (let z : ◌≡◌ {A = ℕ} 0 1 = cc in omega arith)
      go (Some u) f (inl l) at long st =
          let place : length t - 14 * ((length (graph_of t).roots - j) + 1) ≡ at + 14 * j = omega arith in
          ap (λ (c : Bool). cond c (root_told (read_row (drop (length t - 14 * ((length (graph_of t).roots - j) + 1)) t))) None) (lt-ltb j (length (graph_of t).roots) l)
          ∙ ap (λ (q : ℕ). root_told (read_row (drop q t))) place
          ∙ ap root_told (root_spot t at (graph_of t).roots _ j u laws.rooted f st)

  -- a section has a start exactly if it is present

  start_tells : (o : Option Body) (s : ℕ) (p : Option ℕ) → Spot t s o p → not (is_some p) ≡ not (is_some o)
  start_tells None s p h = ap (λ (x : Option ℕ). not (is_some x)) h
  start_tells (Some b) s p h = ap (λ (x : Option ℕ). not (is_some x)) h.1

  unnoted_tells : (n : Option ℕ) → unnoted (starts_of t) n ≡ absent_in (graph_of t) n
  unnoted_tells None = refl
  unnoted_tells (Some s) = start_tells (section_of (graph_of t) s) s (slice_index_or (starts_of t) s None) (spot_at s)

  targets_rows : (at : ℕ) (es : List Entry) → AllByRecursion Ranged es → targets_from (starts_of t) at (map render es) ≡ ok_unless (option_map dangling_at (dangling_from (graph_of t) at (map render es))) tt
  targets_rows at [] r = refl
  targets_rows at (e ∷ es) r =
      let more : Result (Unit {0}) Fault = targets_from (starts_of t) (at + length (render e)) (map render es) in
      let rest : Option ℕ = dangling_from (graph_of t) (at + length (render e)) (map render es) in
      ap (target_on (starts_of t) at more) (row_itself e r.0)
      ∙ ap (λ (b : Bool). cond b (Err (dangling_at at)) more) (unnoted_tells (named e))
      ∙ go (absent_in (graph_of t) (named e)) more rest (targets_rows (at + length (render e)) es r.1)
      ∙ ap (λ (x : Result Entry Cause). ok_unless (option_map dangling_at (cond (dangles (graph_of t) x) (Some at) rest)) tt) (sym (row_itself e r.0))
    where
      go : (b : Bool) (more : Result (Unit {0}) Fault) (rest : Option ℕ) → more ≡ ok_unless (option_map dangling_at rest) tt
          → cond b (Err (dangling_at at)) more ≡ ok_unless (option_map dangling_at (cond b (Some at) rest)) tt
      go true more rest h = refl
      go false more rest h = h

  pub targets_right : targets_from (starts_of t) 0 (lines t) ≡ ok_unless (option_map dangling_at (dangling_from (graph_of t) 0 (lines t))) tt
  targets_right =
      ap (targets_from (starts_of t) 0) rows
      ∙ targets_rows 0 (entries (graph_of t)) (ranged_entries (graph_of t) laws)
      ∙ ap (λ (ls : List (List ℕ)). ok_unless (option_map dangling_at (dangling_from (graph_of t) 0 ls)) tt) (sym rows)
