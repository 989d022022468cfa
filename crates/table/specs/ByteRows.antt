-- The rows of some bytes stand before others, and tell the bytes.
use Rattle.std.specs.Prelude.{◌≡◌, ℕ, zero, suc, ◌+◌, ◌-◌, ◌*◌, ◌/◌, ◌%◌, ◌^◌, ◌<◌, true, Decides, bytes_eq, List, [], ◌∷◌, ◌++◌, length, take, drop, pos, Some, slice_index, refl}
use Rattle.std.proofs.Common.{sym, ap, ◌∙◌, append_assoc, ext_get_or, arith}
use Rattle.std.specs.List.{flat_map, AllByRecursion}
use Rattle.std.proofs.lemmas.List.{length-append, length-drop}
use Rattle.std.proofs.lemmas.Slice.Eq.{bytes_eq-Decides}
use Rattle.column.specs.Columns.{read_column}
use Rattle.row.specs.Entry.{Entry, bytes, end, render}
use Rattle.row.proofs.Rows.{render_length}
use Rattle.layout.specs.Layout.{with_bytes, bytes_length}
use Rattle.table.specs.Places.{byte_rows}
use Rattle.table.specs.Distances.{past_bytes, byte_spot}

joined : (k : ℕ) (bs : List ℕ) (rest : List Entry) → flat_map render (with_bytes k bs rest) ≡ flat_map render (with_bytes k bs []) ++ flat_map render rest
joined zero bs rest = refl
joined (suc k) [] rest = refl
joined (suc k) (b ∷ bs) rest =
    let row : List ℕ = render (bytes (take 16 (b ∷ bs))) in
    ap (λ (t : List ℕ). row ++ t) (joined k (drop 16 (b ∷ bs)) rest)
    ∙ sym (append_assoc row (flat_map render (with_bytes k (drop 16 (b ∷ bs)) [])) (flat_map render rest))

-- they stand before other rows
pub rows_before : (bs : List ℕ) (rest : List Entry) → flat_map render (with_bytes (length bs) bs rest) ≡ byte_rows bs ++ flat_map render rest
unfolding byte_rows
rows_before bs rest = joined (length bs) bs rest

pub rows_length : (bs : List ℕ) → AllByRecursion (λ b. b < 2 ^ 8) bs → length (byte_rows bs) ≡ bytes_length (length bs)
rows_length bs h =
    let last : List Entry = end 0 ∷ [] in
    let t : List ℕ = flat_map render (with_bytes (length bs) bs last) in
    let past : drop (0 + bytes_length (length bs)) t ≡ flat_map render last = past_bytes (length bs) t 0 bs last (omega arith) h refl in
    let whole : length t ≡ length (byte_rows bs) + length (flat_map render last) = ap length (rows_before bs last) ∙ length-append (byte_rows bs) _ in
    let left : length t - (0 + bytes_length (length bs)) ≡ length (flat_map render last) = sym (length-drop (0 + bytes_length (length bs)) t) ∙ ap length past in
    let some : length (render (end 0)) ≡ 14 = render_length (end 0) (omega arith) in
    let one : length (flat_map render last) ≡ length (render (end 0)) + 0 = length-append (render (end 0)) [] in
    omega arith

-- byte i of them
row_byte : (bs : List ℕ) (i : ℕ) → AllByRecursion (λ b. b < 2 ^ 8) bs → i < length bs
    → read_column (take 4 (drop (0 + (66 * (i / 16) + (1 + 4 * (i % 16)))) (byte_rows bs))) ≡ Some (pos (slice_index bs i))
unfolding byte_rows
row_byte bs i h l = byte_spot (length bs) (byte_rows bs) 0 bs [] i (omega arith) l h refl

-- the same rows tell the same bytes
pub same_rows : (bs cs : List ℕ) → AllByRecursion (λ b. b < 2 ^ 8) bs → AllByRecursion (λ b. b < 2 ^ 8) cs → byte_rows bs ≡ byte_rows cs → bs ≡ cs
same_rows bs cs h k e =
    let long : bytes_length (length bs) ≡ bytes_length (length cs) = sym (rows_length bs h) ∙ ap length e ∙ rows_length cs k in
    let same : length bs ≡ length cs = omega arith in
    ext_get_or 0 bs cs same
    (λ i l.
    let place : ℕ = 0 + (66 * (i / 16) + (1 + 4 * (i % 16))) in
    let one : Some (pos (slice_index bs i)) ≡ Some (pos (slice_index cs i)) =
    sym (row_byte bs i h l) ∙ ap (λ (t : List ℕ). read_column (take 4 (drop place t))) e ∙ row_byte cs i k (omega arith) in
    cc)

-- so a test of the rows is one of the bytes
pub rows_decide : (bs cs : List ℕ) → AllByRecursion (λ b. b < 2 ^ 8) bs → AllByRecursion (λ b. b < 2 ^ 8) cs
    → Decides (bytes_eq (byte_rows bs) (byte_rows cs)) (bs ≡ cs)
rows_decide bs cs h k =
    let d = bytes_eq-Decides (byte_rows bs) (byte_rows cs) in
    (λ e. same_rows bs cs h k (d.0 e), λ e. d.1 (ap byte_rows e))
