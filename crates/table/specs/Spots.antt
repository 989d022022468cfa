-- Where the parts of a table are: rows have known lengths, so every place can be computed from a section's start.
use Rattle.std.specs.Prelude.{◌≡◌, ℕ, zero, suc, ◌+◌, ◌<◌, ◌≤◌, List, [], ◌∷◌, length, get_or, take, drop, Some, None, Option, slice_index_or, slice_set, refl}
use Rattle.std.proofs.Common.{sym, ap, subst, ◌∙◌, arith}
use Rattle.std.specs.List.{flat_map}
use Rattle.std.proofs.lemmas.List.{drop-drop, drop_at, get_or-set_same, get_or-set_other, length-set}
use Rattle.model.specs.declared.Relocation.{Relocation}
use Rattle.model.specs.Graph.{Body, record_in}
use Rattle.row.specs.Entry.{Entry, section, bytes, relocation, root, end, render}
use Rattle.layout.specs.Layout.{with_bytes, with_relocations, with_section, with_sections, with_roots}
use Rattle.table.specs.Notes.{note_entry}

-- the text from `at` on is that of some rows
abbrev pub Stands : List ℕ → ℕ → List Entry → Type 0
Stands t at es = drop at t ≡ flat_map render es

pub stands_next : (t : List ℕ) (at : ℕ) (e : Entry) (es : List Entry) → Stands t at (e ∷ es) → Stands t (at + length (render e)) es
stands_next t at e es h =
    sym (drop-drop (length (render e)) at t) ∙ ap (drop (length (render e))) h ∙ drop_at (render e) (flat_map render es) (length (render e)) refl

-- the notes on some entries
abbrev pub notes : ℕ → List Entry → List (Option ℕ) → List (Option ℕ)
notes at [] xs = xs
notes at (e ∷ es) xs = notes (at + length (render e)) es (note_entry e at xs)

-- further rows, of which none is a section's, at a later place and with the same notes
abbrev Past : List ℕ → ℕ → List Entry → List Entry → List (Option ℕ) → Type 0
Past t at es rest xs = (to : ℕ) × (at ≤ to) × Stands t to rest × (notes at es xs ≡ notes to rest xs)

past_bytes : (t : List ℕ) (k : ℕ) (bs : List ℕ) (rest : List Entry) (at : ℕ) (xs : List (Option ℕ)) → Stands t at (with_bytes k bs rest) → Past t at (with_bytes k bs rest) rest xs
past_bytes t zero bs rest at xs h = (at, omega arith, h, refl)
past_bytes t (suc k) [] rest at xs h = (at, omega arith, h, refl)
past_bytes t (suc k) (b ∷ bs) rest at xs h =
    let row : Entry = bytes (take 16 (b ∷ bs)) in
    let p = past_bytes t k (drop 16 (b ∷ bs)) rest (at + length (render row)) xs (stands_next t at row _ h) in
    (p.0, omega (arith, p.1), p.2, p.3)

past_relocations : (t : List ℕ) (rs : List Relocation) (rest : List Entry) (at : ℕ) (xs : List (Option ℕ)) → Stands t at (with_relocations rs rest) → Past t at (with_relocations rs rest) rest xs
past_relocations t [] rest at xs h = (at, omega arith, h, refl)
past_relocations t (r ∷ rs) rest at xs h =
    let p = past_relocations t rs rest (at + length (render (relocation r))) xs (stands_next t at (relocation r) _ h) in
    (p.0, omega (arith, p.1), p.2, p.3)

notes_roots : (ts : List ℕ) (k at : ℕ) (xs : List (Option ℕ)) → notes at (with_roots ts (end k ∷ [])) xs ≡ xs
notes_roots [] k at xs = refl
notes_roots (u ∷ ts) k at xs = notes_roots ts k (at + length (render (root u))) xs

-- what is noted of a section: nothing if it is absent, else where its rows stand
abbrev pub Spot : List ℕ → ℕ → Option Body → Option ℕ → Type 0
Spot t u None p = p ≡ None
Spot t u (Some b) p = (at : ℕ) × (p ≡ Some at) × (rest : List Entry) × Stands t at (with_section u b rest)

pub record Noted (t : List ℕ) (s : ℕ) (bs : List (Option Body)) (xs ys : List (Option ℕ)) : Type 0 where
  pub before : (u : ℕ) → u < s → slice_index_or ys u None ≡ slice_index_or xs u None
  pub spots : (i : ℕ) → Spot t (s + i) (slice_index_or bs i None) (slice_index_or ys (s + i) None)

pub sections_noted : (t : List ℕ) (s : ℕ) (bs : List (Option Body)) (ts : List ℕ) (k at : ℕ) (xs : List (Option ℕ))
    → Stands t at (with_sections s bs (with_roots ts (end k ∷ []))) → s + length bs ≤ length xs → ((v : ℕ) → s ≤ v → slice_index_or xs v None ≡ None)
    → Noted t s bs xs (notes at (with_sections s bs (with_roots ts (end k ∷ []))) xs)
sections_noted t s [] ts k at xs h fits none =
    let same = notes_roots ts k at xs in
    record {
      before = λ u l. ap (λ (ys : List (Option ℕ)). slice_index_or ys u None) same;
      spots = λ i. ap (λ (ys : List (Option ℕ)). slice_index_or ys (s + i) None) same ∙ none (s + i) (omega arith);
    }
sections_noted t s (None ∷ bs) ts k at xs h fits none =
    let n = sections_noted t (suc s) bs ts k at xs h (omega arith) (λ v l. none v (omega arith)) in
    record {
      before = λ u l. n.before u (omega arith);
      spots = elim [
        | zero ↦ n.before (s + 0) (omega arith) ∙ none (s + 0) (omega arith)
        | suc i ↦ subst (λ (u : ℕ). Spot t u (slice_index_or bs i None) (slice_index_or (notes at (with_sections (suc s) bs (with_roots ts (end k ∷ []))) xs) u None)) (let e : suc s + i ≡ s + suc i = omega arith in e) (n.spots i)
      ];
    }
sections_noted t s (Some b ∷ bs) ts k at xs h fits none =
    let rest : List Entry = with_sections (suc s) bs (with_roots ts (end k ∷ [])) in
    let row : Entry = section s (record_in b) in
    let ys : List (Option ℕ) = slice_set xs s (Some at) in
    let p = past_bytes t (length b.bytes) b.bytes (with_relocations b.relocations rest) (at + length (render row)) ys (stands_next t at row _ h) in
    let q = past_relocations t b.relocations rest p.0 ys p.2 in
    let more : ℕ = q.0 in
    let same : notes at (with_section s b rest) xs ≡ notes more rest ys = p.3 ∙ q.3 in
    let wide : suc s + length bs ≤ length ys = simp length-set (omega arith) in
    let inside : s < length xs = omega arith in
    let n = sections_noted t (suc s) bs ts k more ys q.2 wide
    (λ v l. let apart : v ≡ s → ⊥ = λ (e : v ≡ s). omega arith in get_or-set_other xs s v (Some at) None apart ∙ none v (omega arith)) in
    let here : get_or (notes more rest ys) s None ≡ Some at = n.before s (omega arith) ∙ get_or-set_same xs s (Some at) None inside in
    subst (Noted t s (Some b ∷ bs) xs) (sym same)
    (record {
      before = λ u l. let apart : u ≡ s → ⊥ = λ (e : u ≡ s). omega arith in n.before u (omega arith) ∙ get_or-set_other xs s u (Some at) None apart;
      spots = elim [
        | zero ↦ subst (λ (u : ℕ). Spot t u (Some b) (slice_index_or (notes more rest ys) u None)) (let e : s ≡ s + 0 = omega arith in e) (at, here, rest, h)
        | suc i ↦ subst (λ (u : ℕ). Spot t u (slice_index_or bs i None) (slice_index_or (notes more rest ys) u None)) (let e : suc s + i ≡ s + suc i = omega arith in e) (n.spots i)
      ];
    })

-- the rows behind the sections stand somewhere
pub past_sections : (t : List ℕ) (s : ℕ) (bs : List (Option Body)) (rest : List Entry) (at : ℕ) → Stands t at (with_sections s bs rest) → (to : ℕ) × Stands t to rest
past_sections t s [] rest at h = (at, h)
past_sections t s (None ∷ bs) rest at h = past_sections t (suc s) bs rest at h
past_sections t s (Some b ∷ bs) rest at h =
    let row : Entry = section s (record_in b) in
    let p = past_bytes t (length b.bytes) b.bytes (with_relocations b.relocations (with_sections (suc s) bs rest)) (at + length (render row)) [] (stands_next t at row _ h) in
    let q = past_relocations t b.relocations (with_sections (suc s) bs rest) p.0 [] p.2 in
    past_sections t (suc s) bs rest q.0 q.2
