-- The places that the reader computes are those of the graph's bytes, relocations and roots.
use Rattle.std.specs.Prelude.{◌≡◌, ℕ, zero, suc, ◌+◌, ◌-◌, ◌*◌, ◌/◌, ◌%◌, ◌^◌, ◌<◌, ◌≤◌, ◌⊎◌, List, [], ◌∷◌, length, take, drop, pos, Some, Ok, slice_index}
use Rattle.std.proofs.Common.{sym, ap, subst, ◌∙◌, inl, inr, arith, add-zero}
use Rattle.std.specs.List.{flat_map, slice_get, AllByRecursion}
use Rattle.std.proofs.lemmas.List.{drop-drop, length-take, length-drop, length-append, get_or-take, get_or-drop}
use Rattle.std.proofs.ByRecursion.{All-take, All-drop}
use Rattle.std.proofs.lemmas.Bool.{cases_lt}
use Rattle.column.specs.Columns.{read_column}
use Rattle.model.specs.declared.Relocation.{Relocation}
use Rattle.row.specs.Entry.{Entry, bytes, relocation, root, end, render, Ranged}
use Rattle.row.specs.Reading.{read_row}
use Rattle.row.specs.Told.{row_length}
use Rattle.row.proofs.Rows.{row_reads, render_length, byte_column}
use Rattle.layout.specs.Layout.{with_bytes, with_relocations, with_roots, bytes_length}
use Rattle.layout.proofs.Only.{with_bytes_some}
use Rattle.table.specs.Spots.{Stands, stands_next}

-- the row that stands at a place is read there
pub stands_read : (t : List ℕ) (at : ℕ) (e : Entry) (es : List Entry) → Ranged e → Stands t at (e ∷ es) → read_row (drop at t) ≡ Ok e
stands_read t at e es r h = ap read_row h ∙ row_reads e r (flat_map render es)

-- and the next row at a known distance
pub stands_after : (t : List ℕ) (at : ℕ) (e : Entry) (es : List Entry) → Ranged e → Stands t at (e ∷ es) → Stands t (at + row_length e) es
stands_after t at e es r h = subst (λ (w : ℕ). Stands t (at + w) es) (render_length e r) (stands_next t at e es h)

-- bytes

row_ranged : (bs : List ℕ) → 0 < length bs → AllByRecursion (λ b. b < 2 ^ 8) bs → Ranged (bytes (take 16 bs))
row_ranged bs some h =
    let least : 0 < length (take 16 bs) = simp length-take (omega arith) in
    let most : length (take 16 bs) ≤ 16 = simp length-take (omega arith) in
    (least, most, All-take _ 16 bs h)

-- past the first row of some bytes
next_bytes : (t : List ℕ) (at : ℕ) (bs : List ℕ) (rest : List Entry) → 0 < length bs → AllByRecursion (λ b. b < 2 ^ 8) bs → Stands t at (with_bytes (length bs) bs rest)
    → Stands t at (bytes (take 16 bs) ∷ with_bytes (length (drop 16 bs)) (drop 16 bs) rest)
    × Stands t (at + (2 + 4 * length (take 16 bs))) (with_bytes (length (drop 16 bs)) (drop 16 bs) rest)
next_bytes t at bs rest some h s =
    let here : Stands t at (bytes (take 16 bs) ∷ with_bytes (length (drop 16 bs)) (drop 16 bs) rest) =
    subst (λ (es : List Entry). Stands t at es) (with_bytes_some bs rest some) s in
    (here, stands_after t at (bytes (take 16 bs)) _ (row_ranged bs some h) here)

pub past_bytes : (m : ℕ) (t : List ℕ) (at : ℕ) (bs : List ℕ) (rest : List Entry) → length bs ≤ m → AllByRecursion (λ b. b < 2 ^ 8) bs → Stands t at (with_bytes (length bs) bs rest)
    → Stands t (at + bytes_length (length bs)) rest
past_bytes m t at [] rest few h s = subst (λ (p : ℕ). Stands t p rest) (sym (add-zero at)) s
past_bytes zero t at (b ∷ bs) rest few h s = absurd (omega arith)
past_bytes (suc m) t at (b ∷ bs) rest few h s =
    let xs : List ℕ = b ∷ bs in
    let n = next_bytes t at xs rest (omega arith) h s in
    let left : length (drop 16 xs) ≡ length xs - 16 = length-drop 16 xs in
    let deeper = past_bytes m t (at + (2 + 4 * length (take 16 xs))) (drop 16 xs) rest (omega arith) (All-drop _ 16 xs h) n.1 in
    subst (λ (p : ℕ). Stands t p rest) (go (cases_lt (length xs) 16) left) deeper
  where
    go : (length (b ∷ bs) < 16) ⊎ (16 ≤ length (b ∷ bs)) → length (drop 16 (b ∷ bs)) ≡ length (b ∷ bs) - 16
        → (at + (2 + 4 * length (take 16 (b ∷ bs)))) + bytes_length (length (drop 16 (b ∷ bs))) ≡ at + bytes_length (length (b ∷ bs))
    go (inl short) left =
        let none : length (drop 16 (b ∷ bs)) ≡ 0 = omega arith in
        let took : length (take 16 (b ∷ bs)) ≡ length (b ∷ bs) = simp length-take (omega arith) in
        omega arith
    go (inr full) left =
        let took : length (take 16 (b ∷ bs)) ≡ 16 = simp length-take (omega arith) in
        omega arith

pub byte_spot : (m : ℕ) (t : List ℕ) (at : ℕ) (bs : List ℕ) (rest : List Entry) (i : ℕ) → length bs ≤ m → i < length bs → AllByRecursion (λ b. b < 2 ^ 8) bs → Stands t at (with_bytes (length bs) bs rest)
    → read_column (take 4 (drop (at + (66 * (i / 16) + (1 + 4 * (i % 16)))) t)) ≡ Some (pos (slice_index bs i))
byte_spot zero t at bs rest i few inside h s = absurd (omega arith)
byte_spot (suc m) t at bs rest i few inside h s =
    let n = next_bytes t at bs rest (omega arith) h s in
    go (cases_lt i 16) n (λ some e u. byte_spot m t (at + (2 + 4 * length (take 16 bs))) (drop 16 bs) rest (i - 16) e u (All-drop _ 16 bs h) n.1)
  where
    go : (i < 16) ⊎ (16 ≤ i)
        → Stands t at (bytes (take 16 bs) ∷ with_bytes (length (drop 16 bs)) (drop 16 bs) rest)
        × Stands t (at + (2 + 4 * length (take 16 bs))) (with_bytes (length (drop 16 bs)) (drop 16 bs) rest)
        → (16 ≤ i → length (drop 16 bs) ≤ m → i - 16 < length (drop 16 bs)
        → read_column (take 4 (drop ((at + (2 + 4 * length (take 16 bs))) + (66 * ((i - 16) / 16) + (1 + 4 * ((i - 16) % 16)))) t)) ≡ Some (pos (slice_index (drop 16 bs) (i - 16))))
        → read_column (take 4 (drop (at + (66 * (i / 16) + (1 + 4 * (i % 16)))) t)) ≡ Some (pos (slice_index bs i))
    go (inl low) n deeper =
        let took : i < length (take 16 bs) = simp length-take (omega arith) in
        let place : at + (66 * (i / 16) + (1 + 4 * (i % 16))) ≡ at + (1 + 4 * i) = omega arith in
        ap (λ (p : ℕ). read_column (take 4 (drop p t))) place
        ∙ ap (λ (xs : List ℕ). read_column (take 4 xs)) (sym (drop-drop (1 + 4 * i) at t) ∙ ap (drop (1 + 4 * i)) n.0)
        ∙ byte_column (take 16 bs) i _ (row_ranged bs (omega arith) h) took
        ∙ ap (λ (x : ℕ). Some (pos x)) (get_or-take 16 bs i 0 low)
    go (inr high) n deeper =
        let left : length (drop 16 bs) ≡ length bs - 16 = length-drop 16 bs in
        let took : length (take 16 bs) ≡ 16 = simp length-take (omega arith) in
        let place : at + (66 * (i / 16) + (1 + 4 * (i % 16))) ≡ (at + (2 + 4 * length (take 16 bs))) + (66 * ((i - 16) / 16) + (1 + 4 * ((i - 16) % 16))) = omega arith in
        let back : 16 + (i - 16) ≡ i = omega arith in
        ap (λ (p : ℕ). read_column (take 4 (drop p t))) place
        ∙ deeper high (omega arith) (omega arith)
        ∙ ap (λ (x : ℕ). Some (pos x)) (get_or-drop 16 bs (i - 16) 0 ∙ ap (λ (k : ℕ). slice_index bs k) back)

-- relocations and roots: rows of one length

pub relocation_spot : (t : List ℕ) (at : ℕ) (rs : List Relocation) (rest : List Entry) (j : ℕ) (r : Relocation) → AllByRecursion (λ x. Ranged (relocation x)) rs → slice_get rs j ≡ Some r
    → Stands t at (with_relocations rs rest) → read_row (drop (at + 62 * j) t) ≡ Ok (relocation r)
relocation_spot t at [] rest j r h e s = absurd (let z : ◌≡◌ {A = ℕ} 0 1 = cc in omega arith)
relocation_spot t at (x ∷ rs) rest zero r h e s =
    let same : x ≡ r = cc in
    let place : at + 62 * 0 ≡ at = omega arith in
    ap (λ (p : ℕ). read_row (drop p t)) place ∙ stands_read t at (relocation x) _ h.0 s ∙ ap (λ (y : Relocation). Ok (relocation y)) same
relocation_spot t at (x ∷ rs) rest (suc j) r h e s =
    let place : at + 62 * suc j ≡ (at + 62) + 62 * j = omega arith in
    ap (λ (p : ℕ). read_row (drop p t)) place
    ∙ relocation_spot t (at + 62) rs rest j r h.1 e (stands_after t at (relocation x) _ h.0 s)

pub root_spot : (t : List ℕ) (at : ℕ) (ts : List ℕ) (rest : List Entry) (j u : ℕ) → AllByRecursion (λ x. Ranged (root x)) ts → slice_get ts j ≡ Some u
    → Stands t at (with_roots ts rest) → read_row (drop (at + 14 * j) t) ≡ Ok (root u)
root_spot t at [] rest j u h e s = absurd (let z : ◌≡◌ {A = ℕ} 0 1 = cc in omega arith)
root_spot t at (x ∷ ts) rest zero u h e s =
    let same : x ≡ u = cc in
    let place : at + 14 * 0 ≡ at = omega arith in
    ap (λ (p : ℕ). read_row (drop p t)) place ∙ stands_read t at (root x) _ h.0 s ∙ ap (λ (y : ℕ). Ok (root y)) same
root_spot t at (x ∷ ts) rest (suc j) u h e s =
    let place : at + 14 * suc j ≡ (at + 14) + 14 * j = omega arith in
    ap (λ (p : ℕ). read_row (drop p t)) place
    ∙ root_spot t (at + 14) ts rest j u h.1 e (stands_after t at (root x) _ h.0 s)

roots_length : (ts : List ℕ) (k : ℕ) → AllByRecursion (λ x. Ranged (root x)) ts → Ranged (end k) → length (flat_map render (with_roots ts (end k ∷ []))) ≡ 14 * (length ts + 1)
roots_length [] k h e = length-append (render (end k)) [] ∙ omega (arith, render_length (end k) e)
roots_length (x ∷ ts) k h e =
    length-append (render (root x)) (flat_map render (with_roots ts (end k ∷ [])))
    ∙ omega (arith, render_length (root x) h.0, roots_length ts k h.1 e)

-- the roots stand at the end of the text
pub roots_place : (t : List ℕ) (at : ℕ) (ts : List ℕ) (k : ℕ) → AllByRecursion (λ x. Ranged (root x)) ts → Ranged (end k) → Stands t at (with_roots ts (end k ∷ []))
    → at + 14 * (length ts + 1) ≡ length t
roots_place t at ts k h e s =
    let left : length t - at ≡ 14 * (length ts + 1) = sym (length-drop at t) ∙ ap length s ∙ roots_length ts k h e in
    omega arith
