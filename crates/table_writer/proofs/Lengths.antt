-- How long the parts of a table's text are.
use Rattle.std.proofs.Common.{◌≡◌, ℕ, zero, suc, ◌+◌, ◌-◌, ◌*◌, ◌<◌, ◌≤◌, cond, ◌⊎◌, List, [], ◌∷◌, length, get_or, take, drop, is_some, Some, None, Option, sym, refl, ap, ◌∙◌, inl, inr, zero-add, arith}
use Rattle.std.specs.List.{flat_map, range_with_len, sum_by, AllByRecursion}
use Rattle.std.proofs.lemmas.List.{length-append, length-take, length-drop, drop_more, drop_all}
use Rattle.std.proofs.lemmas.List.Sums.{sum_by-cons}
use Rattle.std.proofs.lemmas.Bool.{cases_lt}
use Rattle.model.specs.declared.Record.{Record}
use Rattle.model.specs.declared.Relocation.{Relocation}
use Rattle.model.specs.Graph.{Body, Graph, record_in, told_record}
use Rattle.model.specs.Laws.{Valid}
use Rattle.row.specs.Entry.{Entry, end, render, Ranged}
use Rattle.row.specs.Told.{row_length}
use Rattle.row.proofs.Rows.{render_length}
use Rattle.layout.specs.Layout.{with_bytes, with_relocations, with_section, with_sections, with_roots, present_count, bytes_length, entries, text_of}
use Rattle.layout.proofs.Only.{with_bytes_some}
use Rattle.layout.proofs.Ranges.{ranged_entries}
use Rattle.layout.proofs.Aims.{formed_from_valid}
use Rattle.table_writer.specs.Texts.{record_length}

-- how long the rows of the present sections are
unfoldable pub sections_length : List (Option Body) → ℕ
sections_length [] = 0
sections_length (None ∷ bs) = sections_length bs
sections_length (Some b ∷ bs) = record_length (record_in b) + sections_length bs

-- rows have fixed lengths
abbrev rows_length : List Entry → ℕ
rows_length [] = 0
rows_length (e ∷ es) = row_length e + rows_length es

joined_length : (es : List Entry) → AllByRecursion Ranged es → length (flat_map render es) ≡ rows_length es
joined_length [] h = refl
joined_length (e ∷ es) h =
    omega (arith, length-append (render e) (flat_map render es), render_length e h.0, joined_length es h.1)

bytes_rows : (m : ℕ) (bs : List ℕ) (rest : List Entry) → length bs ≤ m → rows_length (with_bytes (length bs) bs rest) ≡ bytes_length (length bs) + rows_length rest
bytes_rows m [] rest few = omega arith
bytes_rows zero (b ∷ bs) rest few = absurd (omega arith)
bytes_rows (suc m) (b ∷ bs) rest few =
    let xs : List ℕ = b ∷ bs in
    let left : length (drop 16 xs) ≡ length xs - 16 = length-drop 16 xs in
    ap rows_length (with_bytes_some xs rest (omega arith))
    ∙ ap (λ (n : ℕ). (2 + 4 * length (take 16 xs)) + n) (bytes_rows m (drop 16 xs) rest (omega arith))
    ∙ go (cases_lt (length xs) 16) left
  where
    go : (length (b ∷ bs) < 16) ⊎ (16 ≤ length (b ∷ bs)) → length (drop 16 (b ∷ bs)) ≡ length (b ∷ bs) - 16
        → (2 + 4 * length (take 16 (b ∷ bs))) + (bytes_length (length (drop 16 (b ∷ bs))) + rows_length rest) ≡ bytes_length (length (b ∷ bs)) + rows_length rest
    go (inl short) left =
        let none : length (drop 16 (b ∷ bs)) ≡ 0 = omega arith in
        let took : length (take 16 (b ∷ bs)) ≡ length (b ∷ bs) = simp length-take (omega arith) in
        omega arith
    go (inr full) left =
        let took : length (take 16 (b ∷ bs)) ≡ 16 = simp length-take (omega arith) in
        omega arith

relocations_rows : (rs : List Relocation) (rest : List Entry) → rows_length (with_relocations rs rest) ≡ 62 * length rs + rows_length rest
relocations_rows [] rest = omega arith
relocations_rows (r ∷ rs) rest = omega (arith, relocations_rows rs rest)

section_rows : (s : ℕ) (b : Body) (rest : List Entry) → rows_length (with_section s b rest) ≡ record_length (record_in b) + rows_length rest
section_rows s b rest =
    let more : List Entry = with_relocations b.relocations rest in
    let n : ℕ = bytes_length (length b.bytes) in
    ap (λ (x : ℕ). 74 + x) (bytes_rows (length b.bytes) b.bytes more (omega arith))
    ∙ ap (λ (x : ℕ). 74 + (n + x)) (relocations_rows b.relocations rest)
    ∙ (let e : 74 + (n + (62 * length b.relocations + rows_length rest)) ≡ 74 + (n + 62 * length b.relocations) + rows_length rest = omega arith in e)

sections_rows : (s : ℕ) (bs : List (Option Body)) (rest : List Entry) → rows_length (with_sections s bs rest) ≡ sections_length bs + rows_length rest
unfolding sections_length
sections_rows s [] rest = omega arith
sections_rows s (None ∷ bs) rest = sections_rows (suc s) bs rest
sections_rows s (Some b ∷ bs) rest =
    let n : ℕ = record_length (record_in b) in
    section_rows s b (with_sections (suc s) bs rest)
    ∙ ap (λ (x : ℕ). n + x) (sections_rows (suc s) bs rest)
    ∙ (let e : n + (sections_length bs + rows_length rest) ≡ n + sections_length bs + rows_length rest = omega arith in e)

roots_rows : (ts : List ℕ) (rest : List Entry) → rows_length (with_roots ts rest) ≡ 14 * length ts + rows_length rest
roots_rows [] rest = omega arith
roots_rows (t ∷ ts) rest = omega (arith, roots_rows ts rest)

-- the length of a table, from its sections' and the count of its roots
pub table_length : (g : Graph) → Valid g → 26 + sections_length g.sections + 14 * length g.roots + 14 ≡ length (text_of g)
table_length g v =
    let last : List Entry = end (present_count g.sections) ∷ [] in
    omega (
      arith,
      joined_length (entries g) (ranged_entries g (formed_from_valid g v)),
      sections_rows 0 g.sections (with_roots g.roots last),
      roots_rows g.roots last,
    )

-- one section after another

-- the rows of the section that a record tells of, if there is one
abbrev pub told_length : Option Record → ℕ
told_length None = 0
told_length (Some r) = record_length r

-- how long the rows of section s are
abbrev pub length_at : List (Option Body) → ℕ → ℕ
length_at bs s = told_length (told_record (get_or bs s None))

-- what is added section by section is found by a sum over their numbers
added : (total : List (Option Body) → ℕ) (each : Option Body → ℕ)
    → total [] ≡ 0
    → ((b : Option Body) (bs : List (Option Body)) → total (b ∷ bs) ≡ each b + total bs)
    → (bs : List (Option Body)) (n s : ℕ) → s + n ≡ length bs → sum_by (λ k. each (get_or bs k None)) (range_with_len s n) ≡ total (drop s bs)
added total each none more bs zero s e = sym (ap total (drop_all s bs (omega arith)) ∙ none)
added total each none more bs (suc n) s e =
    sum_by-cons (λ k. each (get_or bs k None)) s (range_with_len (s + 1) n)
    ∙ ap (λ x. each (get_or bs s None) + x) (added total each none more bs n (s + 1) (omega arith))
    ∙ sym (ap total (drop_more bs s None (omega arith)) ∙ more (get_or bs s None) (drop (s + 1) bs))

pub lengths_added : (bs : List (Option Body)) (n : ℕ) → n ≡ length bs → sum_by (length_at bs) (range_with_len 0 n) ≡ sections_length bs
unfolding sections_length
lengths_added bs n e = added sections_length (λ b. told_length (told_record b)) refl more bs n 0 (omega arith)
  where
    more : (b : Option Body) (rest : List (Option Body)) → sections_length (b ∷ rest) ≡ told_length (told_record b) + sections_length rest
    more None rest = sym (zero-add (sections_length rest))
    more (Some b) rest = refl

-- whether section s is present, as a number
abbrev pub present_at : List (Option Body) → ℕ → ℕ
present_at bs s = cond (is_some (told_record (get_or bs s None))) 1 0

pub present_added : (bs : List (Option Body)) (n : ℕ) → n ≡ length bs → sum_by (present_at bs) (range_with_len 0 n) ≡ present_count bs
present_added bs n e = added present_count (λ b. cond (is_some (told_record b)) 1 0) refl more bs n 0 (omega arith)
  where
    more : (b : Option Body) (rest : List (Option Body)) → present_count (b ∷ rest) ≡ cond (is_some (told_record b)) 1 0 + present_count rest
    more None rest = omega arith
    more (Some b) rest = omega arith
