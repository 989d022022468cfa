-- The parts of a table's text, one row or one section after another.
use Rattle.std.proofs.Common.{◌≡◌, ℕ, zero, suc, ◌+◌, ◌-◌, ◌*◌, ◌<◌, ◌≤◌, min, unwrap_or, ◌⊎◌, List, [], ◌∷◌, ◌++◌, length, get_or, set, take, drop, Some, None, Option, sym, refl, ap, ◌∙◌, inl, inr, append_assoc, add-one, arith}
use Rattle.std.specs.Int.{div_ceil}
use Rattle.std.specs.List.{flat_map, slice_get}
use Rattle.std.proofs.lemmas.List.{append-nil, get_or-take, get_or-drop, get_or-set_other, drop_more, drop_all, drop-drop, length-take, length-drop}
use Rattle.std.proofs.lemmas.Grind.{same_number_lists, flat_map-append, get_or-set_at}
use Rattle.std.proofs.lemmas.Option.{slice_get-get_or}
use Rattle.std.proofs.lemmas.Bool.{cases_lt}
use Rattle.model.specs.declared.Record.{Record}
use Rattle.model.specs.declared.Relocation.{Relocation}
use Rattle.model.specs.Graph.{Body, Graph, record_in, told_record, told_relocation}
use Rattle.row.specs.Entry.{Entry, header, section, bytes, relocation, root, end, render}
use Rattle.layout.specs.Layout.{with_bytes, with_relocations, with_section, with_sections, with_roots, present_count, text_of}
use Rattle.layout.proofs.Only.{with_bytes_some}
use Rattle.graph.proofs.Places.{drop_nth, nth_none}
use Rattle.graph.specs.Bytes.{bytes_in, relocations_in}
use Rattle.table_writer.specs.Texts.{byte_row, relocation_row, root_row, bytes_text, relocations_text, section_text, sections_text, roots_text}
use Rattle.pieces.specs.Writes.{pieces}
use Rattle.pieces.proofs.Writing.{in_pieces}

-- further rows come behind

bytes_behind : (k : ℕ) (bs : List ℕ) (rest : List Entry) → with_bytes k bs rest ≡ with_bytes k bs [] ++ rest
bytes_behind zero bs rest = refl
bytes_behind (suc k) [] rest = refl
bytes_behind (suc k) (b ∷ bs) rest = ap (λ es. bytes (take 16 (b ∷ bs)) ∷ es) (bytes_behind k (drop 16 (b ∷ bs)) rest)

relocations_behind : (rs : List Relocation) (rest : List Entry) → with_relocations rs rest ≡ with_relocations rs [] ++ rest
relocations_behind [] rest = refl
relocations_behind (r ∷ rs) rest = ap (λ es. relocation r ∷ es) (relocations_behind rs rest)

section_behind : (s : ℕ) (b : Body) (rest : List Entry) → with_section s b rest ≡ with_section s b [] ++ rest
section_behind s b rest =
    let k : ℕ = length b.bytes in
    let rs : List Entry = with_relocations b.relocations [] in
    let e : Entry = section s (record_in b) in
    ap (λ es. e ∷ with_bytes k b.bytes es) (relocations_behind b.relocations rest)
    ∙ ap (λ es. e ∷ es) (bytes_behind k b.bytes (rs ++ rest) ∙ sym (append_assoc (with_bytes k b.bytes []) rs rest))
    ∙ ap (λ es. e ∷ (es ++ rest)) (sym (bytes_behind k b.bytes rs))

sections_behind : (s : ℕ) (bs : List (Option Body)) (rest : List Entry) → with_sections s bs rest ≡ with_sections s bs [] ++ rest
sections_behind s [] rest = refl
sections_behind s (None ∷ bs) rest = sections_behind (suc s) bs rest
sections_behind s (Some b ∷ bs) rest =
    let more : List Entry = with_sections (suc s) bs [] in
    ap (with_section s b) (sections_behind (suc s) bs rest)
    ∙ section_behind s b (more ++ rest)
    ∙ sym (append_assoc (with_section s b []) more rest)
    ∙ ap (λ es. es ++ rest) (sym (section_behind s b more))

roots_behind : (ts : List ℕ) (rest : List Entry) → with_roots ts rest ≡ with_roots ts [] ++ rest
roots_behind [] rest = refl
roots_behind (t ∷ ts) rest = ap (λ es. root t ∷ es) (roots_behind ts rest)

-- the bytes, one row after another

bytes_more : (bs : List ℕ) (k : ℕ) → 16 * k < length bs → bytes_text (drop (16 * k) bs) ≡ byte_row bs k ++ bytes_text (drop (16 * (k + 1)) bs)
unfolding bytes_text
bytes_more bs k low =
    let xs : List ℕ = drop (16 * k) bs in
    let some : 0 < length xs = omega (arith, length-drop (16 * k) bs) in
    let next : 16 * k + 16 ≡ 16 * (k + 1) = omega arith in
    ap (flat_map render) (with_bytes_some xs [] some)
    ∙ ap (λ ys. byte_row bs k ++ flat_map render (with_bytes (length ys) ys [])) (drop-drop 16 (16 * k) bs ∙ ap (λ n. drop n bs) next)

bytes_all : (bs : List ℕ) (from : ℕ) → length bs ≤ from → bytes_text (drop from bs) ≡ []
unfolding bytes_text
bytes_all bs from h = ap (λ ys. flat_map render (with_bytes (length ys) ys [])) (drop_all from bs h)

-- the relocations and the roots: one row for each

relocations_flat : (rs : List Relocation) → flat_map (λ r. render (relocation r)) rs ≡ relocations_text rs
unfolding relocations_text
relocations_flat [] = refl
relocations_flat (r ∷ rs) = ap (λ t. render (relocation r) ++ t) (relocations_flat rs)

roots_flat : (ts : List ℕ) → flat_map (λ t. render (root t)) ts ≡ roots_text ts
unfolding roots_text
roots_flat [] = refl
roots_flat (t ∷ ts) = ap (λ x. render (root t) ++ x) (roots_flat ts)

rows_pieces : {X : Type 0} (row : Option X → List ℕ) (xs : List X) → pieces (λ j. row (slice_get xs j)) (length xs) ≡ flat_map (λ x. row (Some x)) xs
rows_pieces {X} row xs =
    in_pieces (λ j. row (slice_get xs j)) (λ j. flat_map (λ x. row (Some x)) (drop j xs)) (length xs) (λ j low. go j low (slice_get xs j) refl)
    (ap (flat_map (λ x. row (Some x))) (drop_all (length xs) xs (omega arith)))
  where
    go : (j : ℕ) → j < length xs → (o : Option X) → slice_get xs j ≡ o
        → flat_map (λ x. row (Some x)) (drop j xs) ≡ row o ++ flat_map (λ x. row (Some x)) (drop (j + 1) xs)
    go j low None e = absurd (omega (arith, nth_none xs j e))
    go j low (Some x) e = ap (flat_map (λ y. row (Some y))) (drop_nth xs j x e)

-- one section

section_parts : (s : ℕ) (b : Body)
    → section_text s (Some b) ≡ render (section s (record_in b)) ++ (bytes_text b.bytes ++ relocations_text b.relocations)
unfolding section_text bytes_text relocations_text
section_parts s b =
    let rs : List Entry = with_relocations b.relocations [] in
    ap (λ es. render (section s (record_in b)) ++ flat_map render es) (bytes_behind (length b.bytes) b.bytes rs)
    ∙ ap (λ t. render (section s (record_in b)) ++ t) (flat_map-append render (with_bytes (length b.bytes) b.bytes []) rs)

-- the sections, one after another

sections_first : (s : ℕ) (o : Option Body) (bs : List (Option Body)) → sections_text s (o ∷ bs) ≡ section_text s o ++ sections_text (suc s) bs
unfolding section_text sections_text
sections_first s None bs = refl
sections_first s (Some b) bs =
    ap (flat_map render) (section_behind s b (with_sections (suc s) bs []))
    ∙ flat_map-append render (with_section s b []) (with_sections (suc s) bs [])

sections_more : (bs : List (Option Body)) (s : ℕ)
    → s < length bs
    → sections_text s (drop s bs) ≡ section_text s (get_or bs s None) ++ sections_text (s + 1) (drop (s + 1) bs)
sections_more bs s low =
    ap (sections_text s) (drop_more bs s None low)
    ∙ sections_first s (get_or bs s None) (drop (s + 1) bs)
    ∙ ap (λ k. section_text s (get_or bs s None) ++ sections_text k (drop (s + 1) bs)) (sym (add-one s))

sections_all : (bs : List (Option Body)) (s : ℕ) → length bs ≤ s → sections_text s (drop s bs) ≡ []
unfolding sections_text
sections_all bs s h = ap (λ xs. flat_map render (with_sections s xs [])) (drop_all s bs h)

-- an absent section has no rows
pub section_none : (s : ℕ) (o : Option Body) → told_record o ≡ None → section_text s o ≡ []
unfolding section_text
section_none s None e = refl
section_none s (Some b) e = absurd (let z : ◌≡◌ {A = ℕ} 0 1 = cc in omega arith)

-- a present one has those that its record announces
pub section_told : (s : ℕ) (o : Option Body) (r : Record)
    → told_record o ≡ Some r
    → ((render (section s r) ++ bytes_text (bytes_in o)) ++ relocations_text (relocations_in o) ≡ section_text s o)
    × (r.size ≡ length (bytes_in o))
    × (r.relocations ≡ length (relocations_in o))
section_told s None r e = absurd (let z : ◌≡◌ {A = ℕ} 0 1 = cc in omega arith)
section_told s (Some b) r e =
    let same : record_in b ≡ r = cc in (
      append_assoc (render (section s r)) (bytes_text b.bytes) (relocations_text b.relocations)
          ∙ ap (λ x. render (section s x) ++ (bytes_text b.bytes ++ relocations_text b.relocations)) (sym same)
          ∙ sym (section_parts s b),
      ap (λ x. x.size) (sym same),
      ap (λ x. x.relocations) (sym same),
    )

-- the whole table, with the counts that the code has
pub table_parts : (g : Graph) (n k present : ℕ)
    → n ≡ length g.sections
    → k ≡ length g.roots
    → present ≡ present_count g.sections
    → (render (header n k) ++ (sections_text 0 g.sections ++ roots_text g.roots)) ++ render (end present) ≡ text_of g
unfolding sections_text roots_text
table_parts g n k present en ek ep =
    let last : List Entry = end (present_count g.sections) ∷ [] in
    let body : List ℕ = flat_map render (with_sections 0 g.sections []) in
    let tail : List ℕ = flat_map render (with_roots g.roots []) in
    let h : List ℕ = render (header (length g.sections) (length g.roots)) in
    ap (λ t. t ++ render (end present)) (sym (append_assoc (render (header n k)) body tail))
    ∙ ap (λ n. ((render (header n k) ++ body) ++ tail) ++ render (end present)) en
    ∙ ap (λ k. ((render (header (length g.sections) k) ++ body) ++ tail) ++ render (end present)) ek
    ∙ ap (λ k. ((h ++ body) ++ tail) ++ render (end k)) ep
    ∙ append_assoc (h ++ body) tail (render (end (present_count g.sections)))
    ∙ append_assoc h body (tail ++ render (end (present_count g.sections)))
    ∙ ap (λ t. h ++ (body ++ (tail ++ t))) (sym (append-nil (render (end (present_count g.sections)))))
    ∙ ap (λ t. h ++ (body ++ t)) (sym (flat_map-append render (with_roots g.roots []) last))
    ∙ ap (λ es. h ++ (body ++ flat_map render es)) (sym (roots_behind g.roots last))
    ∙ ap (λ t. h ++ t) (sym (flat_map-append render (with_sections 0 g.sections []) (with_roots g.roots last)))
    ∙ ap (λ es. h ++ flat_map render es) (sym (sections_behind 0 g.sections (with_roots g.roots last)))

-- the texts in pieces: one for each row, and one for each section

pub bytes_pieces : (bs : List ℕ) (n : ℕ) → n ≡ div_ceil (length bs) 16 → pieces (byte_row bs) n ≡ bytes_text bs
bytes_pieces bs n e =
    in_pieces (byte_row bs) (λ k. bytes_text (drop (16 * k) bs)) n
    (λ k low. bytes_more bs k (omega arith))
    (bytes_all bs (16 * n) (omega arith))

pub relocations_pieces : (o : Option Body) → pieces (λ j. relocation_row (told_relocation o j)) (length (relocations_in o)) ≡ relocations_text (relocations_in o)
relocations_pieces None = relocations_flat []
relocations_pieces (Some b) = rows_pieces relocation_row b.relocations ∙ relocations_flat b.relocations

pub roots_pieces : (ts : List ℕ) → pieces (λ j. root_row (slice_get ts j)) (length ts) ≡ roots_text ts
roots_pieces ts = rows_pieces root_row ts ∙ roots_flat ts

pub sections_pieces : (bs : List (Option Body)) → pieces (λ s. section_text s (get_or bs s None)) (length bs) ≡ sections_text 0 bs
sections_pieces bs =
    in_pieces (λ s. section_text s (get_or bs s None)) (λ s. sections_text s (drop s bs)) (length bs) (sections_more bs)
    (sections_all bs (length bs) (omega arith))

-- a row into which the byte at place i is put
pub row_more : (f : ℕ → ℕ) (row : List ℕ) (i x : ℕ)
    → i < length row
    → x ≡ f i
    → ((j : ℕ) → j < i → get_or row j 0 ≡ f j)
    → (j : ℕ) → j < i + 1 → get_or (set row i x) j 0 ≡ f j
row_more f row i x inside here before j low = go (cases_lt j i)
  where
    go : (j < i) ⊎ (i ≤ j) → get_or (set row i x) j 0 ≡ f j
    go (inl less) =
        let apart : j ≡ i → ⊥ = λ (e : j ≡ i). omega (arith, less) in
        get_or-set_other row i j x 0 apart ∙ before j less
    go (inr last) =
        let at : j ≡ i = omega arith in
        get_or-set_at row i j x 0 at inside ∙ here ∙ ap f (sym at)

-- a row of bytes that were asked for one by one
pub row_gathered : (bs row : List ℕ) (start count : ℕ)
    → count ≡ min (length bs - start) 16
    → length row ≡ 16
    → ((i : ℕ) → i < count → get_or row i 0 ≡ unwrap_or (slice_get bs (start + i)) 0)
    → take 16 (take count row) ≡ take 16 (drop start bs)
row_gathered bs row start count e long each =
    same_number_lists (take 16 (take count row)) (take 16 (drop start bs))
    (omega (arith, length-take 16 (take count row), length-take count row, length-take 16 (drop start bs), length-drop start bs))
    (λ i l. one i (omega (arith, length-take 16 (take count row), length-take count row)))
  where
    one : (i : ℕ) → i < count → get_or (take 16 (take count row)) i 0 ≡ get_or (take 16 (drop start bs)) i 0
    one i low =
        let few : i < 16 = omega arith in
        let inside : start + i < length bs = omega arith in
        get_or-take 16 (take count row) i 0 few
        ∙ get_or-take count row i 0 low
        ∙ each i low
        ∙ ap (λ o. unwrap_or o 0) (slice_get-get_or bs (start + i) 0 inside)
        ∙ sym (get_or-drop start bs i 0)
        ∙ sym (get_or-take 16 (drop start bs) i 0 few)
