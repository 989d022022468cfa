-- Rows are read as they are written, and nothing else is read.
use Rattle.std.proofs.Common.{◌≡◌, ℕ, zero, suc, ◌+◌, ◌*◌, ◌^◌, ◌<◌, ◌≤◌, Bool, true, false, cond, ◌&&◌, T, eqb, leb, List, [], ◌∷◌, ◌++◌, map, length, get_or, take, drop, ℤ, pos, negsuc, ◌≤ℤ◌, Some, Ok, Err, Result, sym, refl, ap, ◌∙◌, subst, append_assoc, arith, pow_mono}
use lib.Signed.{mag, le_z}
use Rattle.std.specs.Fmt.{signed_decimal}
use Rattle.std.specs.List.{AllByRecursion}
use Rattle.std.proofs.lemmas.List.{length-append, length-drop, length-map, drop_more, drop_all, drop_at, drop-take, take_at, get_or-map}
use Rattle.std.proofs.ByRecursion.{All-get_or, All-weaker}
use Rattle.std.proofs.lemmas.List.Prefix.{front_rest}
use Rattle.std.proofs.lemmas.Int.{ints}
use Rattle.std.proofs.lemmas.Bool.{eqb-true, le-leb, and_parts, and_from, cond-true, cond-false, eq-eqb, ne_eqb}
use Rattle.model.specs.declared.Setting.{Setting}
use Rattle.model.specs.declared.Setting.TheVariants.{Foldable, Pinned}
use Rattle.model.specs.declared.Target.{Target}
use Rattle.model.specs.declared.Target.TheVariants.{Section, Outside}
use Rattle.model.specs.declared.Relocation.{Relocation}
use Rattle.model.specs.declared.Record.{Record}
use Rattle.model.specs.Laws.{Alignment, is_alignment, Aimed, lowest, highest}
use Rattle.model.proofs.Powers.{alignment_tested, tested_alignment}
use Rattle.column.specs.Columns.{column, columns, read_column}
use Rattle.column.proofs.Columns.{column_reads, length_column, length_columns, column_plain, columns_plain, signed_of_natural, signed_of_byte, signed_of_displacement}
use Rattle.row_part.specs.declared.Cause.{Cause}
use Rattle.row_part.specs.declared.Cause.TheVariants.{Letter, Range}
use Rattle.row.specs.Entry.{Entry, header, section, bytes, relocation, root, end, letter, width, numbers, render, Ranged, RangedRecord, record_numbers, setting_number, target_kind, target_number}
use Rattle.row_part.specs.Parts.{and_then, column_at, bounded, within, natural_at, aligned, displacement_at, end_at}
use Rattle.row.specs.Reading.{more_bytes, row_bytes, counted, setting_of, target_of, record_at, target_at, relocation_at, read_header, read_section, read_bytes, read_relocation, read_root, read_end, read_by, read_row}
use Rattle.row.specs.declared.Row.{Row}
use Rattle.row.specs.Told.{value, values, byte_values, told, answer, row_length, Cut, Occupies}
use Rattle.row_part.proofs.Parts.{Fits, and_then_from, and_then_only, cond_only, Held, column_held, natural_held, end_held, column_read, natural_read, end_read, first_at, next_column, chained, columns_chained, at_column}

-- no column is wider than 18

four : 4 ≤ 18
four = omega arith

narrow : 12 ≤ 18
narrow = omega arith

-- the numbers of a row fit its columns

fit_natural : (n : ℕ) → n < 2 ^ 32 → Fits 12 (pos n)
fit_natural n h = (signed_of_natural n h, omega arith)

fit_byte : (b : ℕ) → b < 2 ^ 8 → Fits 4 (pos b)
fit_byte b h = (omega (arith, signed_of_byte b h), omega arith)

fit_bytes : (bs : List ℕ) → AllByRecursion (λ b. b < 2 ^ 8) bs → AllByRecursion (Fits 4) (map pos bs)
fit_bytes [] h = tt
fit_bytes (b ∷ bs) h = (fit_byte b h.0, fit_bytes bs h.1)

small_displacement : (z : ℤ) (target : Target) → lowest ≤ℤ z → z ≤ℤ highest target → mag z < 2 ^ 32
small_displacement (pos n) (Section t) low high = omega (arith, ints)
small_displacement (pos n) (Outside e) low high = omega (arith, ints)
small_displacement (negsuc n) target low high = omega (arith, ints)

fit_displacement : (z : ℤ) (target : Target) → lowest ≤ℤ z → z ≤ℤ highest target → Fits 12 z
fit_displacement z target low high =
    let small = small_displacement z target low high in
    (omega (arith, signed_of_displacement z small), omega arith)

setting_small : (s : Setting) → setting_number s ≤ 1
setting_small Foldable = omega arith
setting_small Pinned = omega arith

kind_small : (t : Target) → target_kind t ≤ 1
kind_small (Section t) = omega arith
kind_small (Outside e) = omega arith

number_small : (t : Target) → Aimed (λ x. x < 2 ^ 16) t → target_number t < 2 ^ 16
number_small (Section t) h = h
number_small (Outside e) h = h

alignment_small : (a : ℕ) → Alignment a → a ≤ 65536
alignment_small a (k, low, e) = omega (arith, e, pow_mono {i = k} {j = 16} low)

pub fits : (e : Entry) → Ranged e → AllByRecursion (Fits (width e)) (numbers e)
fits (header n k) h = (fit_natural n (omega arith), (fit_natural k (omega arith), tt))
fits (section s r) (low, h) = (
  fit_natural s (omega arith),
  (
    fit_natural r.flags h.flags,
    (
      fit_natural r.alignment (omega (arith, alignment_small r.alignment h.alignment)),
      (
        fit_natural r.size (omega (arith, h.size)),
        (
          fit_natural r.relocations (omega (arith, h.relocations)),
          (fit_natural (setting_number r.setting) (omega (arith, setting_small r.setting)), tt),
        ),
      ),
    ),
  ),
)
fits (bytes bs) h = fit_bytes bs h.2
fits (relocation r) h = (
  fit_natural r.offset (omega (arith, h.offset)),
  (
    fit_natural r.kind h.kind,
    (
      fit_natural (target_kind r.target) (omega (arith, kind_small r.target)),
      (
        fit_natural (target_number r.target) (omega (arith, number_small r.target h.aimed)),
        (fit_displacement r.displacement r.target h.low h.high, tt),
      ),
    ),
  ),
)
fits (root t) h = (fit_natural t (omega arith), tt)
fits (end k) h = (fit_natural k (omega arith), tt)

-- the row's text, with another behind it
rendered : (e : Entry) (t : List ℕ) → render e ++ t ≡ letter e ∷ chained (width e) (numbers e) (10 ∷ t)
rendered e t =
    ap (λ x. letter e ∷ x)
    (append_assoc (columns (width e) (numbers e)) (10 ∷ []) t ∙ columns_chained (width e) (numbers e) (10 ∷ t))

-- what is written is read

column_in : (w k : ℕ) (zs : List ℤ) (c : ℕ) (rest : List ℕ)
    → (0 < w) × (w ≤ 18)
    → k < length zs
    → AllByRecursion (Fits w) zs
    → column_at w (c ∷ chained w zs rest) (1 + w * k) ≡ Ok (get_or zs k (pos 0))
column_in w k zs c rest some low fit =
    column_read w (c ∷ chained w zs rest) (1 + w * k) (get_or zs k (pos 0)) (chained w (drop (k + 1) zs) rest) some.0 some.1
    (at_column w k zs c rest (omega arith) fit ∙ ap (λ x. chained w x rest) (drop_more zs k (pos 0) low))
    (All-get_or (Fits w) zs k (pos 0) low fit)

natural_in : (w k : ℕ) (zs : List ℤ) (c limit n : ℕ) (rest : List ℕ)
    → (0 < w) × (w ≤ 18)
    → k < length zs
    → AllByRecursion (Fits w) zs
    → get_or zs k (pos 0) ≡ pos n
    → n ≤ limit
    → natural_at w (c ∷ chained w zs rest) (1 + w * k) limit ≡ Ok n
unfolding natural_at
natural_in w k zs c limit n rest some low fit e small =
    and_then_from (bounded limit) _ (pos n) (Ok n)
    (column_in w k zs c rest some low fit ∙ ap (λ (z : ℤ). Ok z) e)
    (cond-true (leb n limit) _ _ (le-leb n limit small))

end_in : (w : ℕ) (zs : List ℤ) (c : ℕ) (rest : List ℕ)
    → AllByRecursion (Fits w) zs
    → end_at (c ∷ chained w zs (10 ∷ rest)) (1 + w * length zs) ≡ Ok (1 + w * length zs + 1)
end_in w zs c rest fit =
    end_read (c ∷ chained w zs (10 ∷ rest)) (1 + w * length zs) rest
    (
    at_column w (length zs) zs c (10 ∷ rest) (omega arith) fit
    ∙ ap (λ x. chained w x (10 ∷ rest)) (drop_all (length zs) zs (omega arith))
    )

reads : Entry → List ℕ → Type 0
reads e t = read_by (letter e) (letter e ∷ chained (width e) (numbers e) (10 ∷ t)) ≡ Ok e

header_reads : (n k : ℕ) → Ranged (header n k) → (t : List ℕ) → reads (header n k) t
unfolding reads
header_reads n k h t =
    let fit = fits (header n k) h in
    let zs : List ℤ = pos n ∷ pos k ∷ [] in
    and_then_from _ _ n _ (natural_in 12 0 zs 72 1024 n (10 ∷ t) (omega arith) (omega arith) fit refl h.0)
    (
    and_then_from _ _ k _ (natural_in 12 1 zs 72 4096 k (10 ∷ t) (omega arith) (omega arith) fit refl h.1)
    (and_then_from _ _ _ _ (end_in 12 zs 72 t fit) refl)
    )

setting_back : (s : Setting) → setting_of (setting_number s) ≡ s
setting_back Foldable = refl
setting_back Pinned = refl

target_back : (t : Target) → target_of (target_kind t) (target_number t) ≡ t
target_back (Section t) = refl
target_back (Outside e) = refl

record_reads : (s : ℕ) (r : Record) → Ranged (section s r) → (t : List ℕ)
    → record_at (83 ∷ chained 12 (numbers (section s r)) (10 ∷ t)) ≡ Ok r
record_reads s r h t =
    let fit = fits (section s r) h in
    let zs : List ℤ = numbers (section s r) in
    let rest : List ℕ = 10 ∷ t in
    and_then_from _ _ r.flags _
    (natural_in 12 1 zs 83 4294967295 r.flags rest (omega arith) (omega arith) fit refl (omega (arith, h.1.flags)))
    (
    and_then_from _ _ r.alignment _
    (
    and_then_from aligned _ r.alignment _
    (
    natural_in 12 2 zs 83 65536 r.alignment rest (omega arith) (omega arith) fit refl
    (alignment_small r.alignment h.1.alignment)
    )
    (cond-true (is_alignment r.alignment) _ _ (alignment_tested r.alignment h.1.alignment))
    )
    (
    and_then_from _ _ r.size _
    (natural_in 12 3 zs 83 65535 r.size rest (omega arith) (omega arith) fit refl (omega (arith, h.1.size)))
    (
    and_then_from _ _ r.relocations _
    (
    natural_in 12 4 zs 83 65535 r.relocations rest (omega arith) (omega arith) fit refl
    (omega (arith, h.1.relocations))
    )
    (
    and_then_from _ _ (setting_number r.setting) _
    (
    natural_in 12 5 zs 83 1 (setting_number r.setting) rest (omega arith) (omega arith) fit refl
    (setting_small r.setting)
    )
    (
    ap
    (λ x. Ok (record { flags = r.flags; alignment = r.alignment; size = r.size; relocations = r.relocations; setting = x }))
    (setting_back r.setting)
    )
    )
    )
    )
    )

section_reads : (s : ℕ) (r : Record) → Ranged (section s r) → (t : List ℕ) → reads (section s r) t
unfolding reads
section_reads s r h t =
    let fit = fits (section s r) h in
    let zs : List ℤ = numbers (section s r) in
    and_then_from _ _ s _
    (natural_in 12 0 zs 83 1023 s (10 ∷ t) (omega arith) (omega arith) fit refl (omega (arith, h.0)))
    (and_then_from _ _ r _ (record_reads s r h t) (and_then_from _ _ _ _ (end_in 12 zs 83 t fit) refl))

true_from : (b : Bool) → T b → b ≡ true
true_from true h = refl
true_from false h = absurd h

relocation_reads : (r : Relocation) → Ranged (relocation r) → (t : List ℕ) → reads (relocation r) t
unfolding reads
relocation_reads r h t =
    let fit = fits (relocation r) h in
    let zs : List ℤ = numbers (relocation r) in
    let rest : List ℕ = 10 ∷ t in
    let row : List ℕ = 82 ∷ chained 12 zs rest in
    let target : target_at row ≡ Ok r.target =
    and_then_from _ _ (target_kind r.target) _
    (natural_in 12 2 zs 82 1 (target_kind r.target) rest (omega arith) (omega arith) fit refl (kind_small r.target))
    (
    and_then_from _ _ (target_number r.target) _
    (
    natural_in 12 3 zs 82 65535 (target_number r.target) rest (omega arith) (omega arith) fit refl
    (omega (arith, number_small r.target h.aimed))
    )
    (ap (λ (x : Target). Ok x) (target_back r.target))
    ) in
    let displacement : displacement_at row 49 r.target ≡ Ok r.displacement =
    and_then_from (within lowest (highest r.target)) _ r.displacement _
    (column_in 12 4 zs 82 rest (omega arith) (omega arith) fit)
    (
    cond-true _ _ _
    (
    and_from (le_z lowest r.displacement) (le_z r.displacement (highest r.target))
    (true_from _ h.low.le)
    (true_from _ h.high.le)
    )
    ) in
    let whole : relocation_at row ≡ Ok r =
    and_then_from _ _ r.offset _
    (natural_in 12 0 zs 82 65534 r.offset rest (omega arith) (omega arith) fit refl (omega (arith, h.offset)))
    (
    and_then_from _ _ r.kind _
    (natural_in 12 1 zs 82 4294967295 r.kind rest (omega arith) (omega arith) fit refl (omega (arith, h.kind)))
    (and_then_from _ _ r.target _ target (and_then_from _ _ r.displacement _ displacement refl))
    ) in
    and_then_from _ _ r _ whole (and_then_from _ _ _ _ (end_in 12 zs 82 t fit) refl)

root_reads : (s : ℕ) → Ranged (root s) → (t : List ℕ) → reads (root s) t
unfolding reads
root_reads s h t =
    let fit = fits (root s) h in
    let zs : List ℤ = pos s ∷ [] in
    and_then_from _ _ s _ (natural_in 12 0 zs 84 65535 s (10 ∷ t) (omega arith) (omega arith) fit refl (omega arith))
    (and_then_from _ _ _ _ (end_in 12 zs 84 t fit) refl)

end_reads : (k : ℕ) → Ranged (end k) → (t : List ℕ) → reads (end k) t
unfolding reads
end_reads k h t =
    let fit = fits (end k) h in
    let zs : List ℤ = pos k ∷ [] in
    and_then_from _ _ k _ (natural_in 12 0 zs 69 1024 k (10 ∷ t) (omega arith) (omega arith) fit refl h)
    (and_then_from _ _ _ _ (end_in 12 zs 69 t fit) refl)

-- B rows

column_starts : (w b : ℕ) (rest : List ℕ) → 0 < w → Fits w (pos b) → get_or (column w (pos b) ++ rest) 0 0 ≡ 10 → ⊥
column_starts w b rest some fit =
    go (column w (pos b)) (length_column w (pos b) fit.0) (column_plain w (pos b) fit.1)
  where
    go : (xs : List ℕ) → length xs ≡ w → AllByRecursion (λ x. 10 < x) xs → get_or (xs ++ rest) 0 0 ≡ 10 → ⊥
    go [] long plain ten = omega arith
    go (x ∷ xs) long plain ten = omega (arith, plain.0)

more_read : (left : ℕ) (bs t : List ℕ) (at : ℕ) (rest : List ℕ)
    → length bs ≤ left
    → AllByRecursion (λ b. b < 2 ^ 8) bs
    → drop at t ≡ chained 4 (map pos bs) (10 ∷ rest)
    → more_bytes left t at ≡ Ok bs
unfolding more_bytes
more_read zero [] t at rest few small e = and_then_from _ _ _ _ (end_read t at rest e) refl
more_read zero (b ∷ bs) t at rest few small e = absurd (omega arith)
more_read (suc left) [] t at rest few small e =
    let ten : get_or t at 0 ≡ 10 = first_at t at (10 ∷ rest) e in
    cond-true (eqb (get_or t at 0) 10) _ _ (eq-eqb (get_or t at 0) 10 ten)
more_read (suc left) (b ∷ bs) t at rest few small e =
    let fit = fit_byte b small.0 in
    let first = first_at t at (column 4 (pos b) ++ chained 4 (map pos bs) (10 ∷ rest)) e in
    let other : get_or t at 0 ≡ 10 → ⊥ =
    λ ten. column_starts 4 b (chained 4 (map pos bs) (10 ∷ rest)) (omega arith) fit (sym first ∙ ten) in
    let after : drop (at + 4) t ≡ chained 4 (map pos bs) (10 ∷ rest) =
    next_column 4 t at (pos b) (chained 4 (map pos bs) (10 ∷ rest)) e fit.0 in
    cond-false (eqb (get_or t at 0) 10) _ _ (ne_eqb (get_or t at 0) 10 other)
    ∙ and_then_from _ _ b _
    (natural_read 4 t at 255 b (chained 4 (map pos bs) (10 ∷ rest)) (omega arith) four e fit (omega (arith, small.0)))
    (and_then_from _ _ bs _ (more_read left bs t (at + 4) rest (omega arith) small.1 after) refl)

bytes_reads : (bs : List ℕ) → Ranged (bytes bs) → (t : List ℕ) → reads (bytes bs) t
unfolding reads
bytes_reads [] h t = absurd (omega (arith, h.0))
bytes_reads (b ∷ bs) h t =
    let fit = fits (bytes (b ∷ bs)) h in
    let zs : List ℤ = map pos (b ∷ bs) in
    let after : drop 5 (66 ∷ chained 4 zs (10 ∷ t)) ≡ chained 4 (map pos bs) (10 ∷ t) =
    at_column 4 1 zs 66 (10 ∷ t) (omega arith) fit in
    let row : row_bytes (66 ∷ chained 4 zs (10 ∷ t)) ≡ Ok (b ∷ bs) =
    and_then_from _ _ b _
    (natural_in 4 0 zs 66 255 b (10 ∷ t) (omega arith) (omega arith) fit refl (omega (arith, h.2.0)))
    (
    and_then_from _ _ bs _
    (more_read 15 bs (66 ∷ chained 4 zs (10 ∷ t)) 5 t (omega (arith, h.1)) h.2.1 after)
    refl
    ) in
    and_then_from _ _ (b ∷ bs) _ row refl

reads_all : (e : Entry) → Ranged e → (t : List ℕ) → reads e t
reads_all (header n k) h t = header_reads n k h t
reads_all (section s r) h t = section_reads s r h t
reads_all (bytes bs) h t = bytes_reads bs h t
reads_all (relocation r) h t = relocation_reads r h t
reads_all (root s) h t = root_reads s h t
reads_all (end k) h t = end_reads k h t

pub row_reads : (e : Entry) → Ranged e → (t : List ℕ) → read_row (render e ++ t) ≡ Ok e
unfolding reads read_row
row_reads e h t = ap read_row (rendered e t) ∙ reads_all e h t

-- only what is written is read

abbrev pub Only : List ℕ → Entry → Type 0
Only t e = Ranged e × (t ≡ render e ++ drop (length (render e)) t)

first_drop : (t : List ℕ) (c : ℕ) → get_or t 0 0 ≡ c → 0 < c → t ≡ c ∷ drop 1 t
first_drop [] c h some = absurd (omega arith)
first_drop (x ∷ t) c h some = ap (λ (y : ℕ). y ∷ t) h

letter_some : (e : Entry) → 0 < letter e
letter_some (header n k) = omega arith
letter_some (section s r) = omega arith
letter_some (bytes bs) = omega arith
letter_some (relocation r) = omega arith
letter_some (root s) = omega arith
letter_some (end k) = omega arith

only_from : (t : List ℕ) (e d : Entry) (rest : List ℕ)
    → ◌≡◌ {A = Result Entry Cause} (Ok d) (Ok e)
    → Ranged d
    → get_or t 0 0 ≡ letter d
    → drop 1 t ≡ chained (width d) (numbers d) (10 ∷ rest)
    → Only t e
only_from t e d rest same h first after =
    let text : t ≡ render d ++ rest =
    first_drop t (letter d) first (letter_some d) ∙ ap (λ x. letter d ∷ x) after ∙ sym (rendered d rest) in
    let front = front_rest t (render d) rest text in
    let eq : d ≡ e = cc same in
    subst (Only t) eq (h, text ∙ ap (λ x. render d ++ x) (sym front))

link : (w : ℕ) (t : List ℕ) (at : ℕ) (z : ℤ) (rest : List ℕ)
    → Held w t at z
    → drop (at + w) t ≡ rest
    → drop at t ≡ column w z ++ rest
link w t at z rest h e = h.there ∙ ap (λ x. column w z ++ x) e

header_only : (t : List ℕ) (e : Entry) → get_or t 0 0 ≡ 72 → read_header t ≡ Ok e → Only t e
header_only t e first h =
    let p = and_then_only _ _ e h in
    let q = and_then_only _ _ e p.2 in
    let r = and_then_only _ _ e q.2 in
    let n = natural_held 12 t 1 1024 p.0 narrow p.1 in
    let k = natural_held 12 t 13 4096 q.0 narrow q.1 in
    only_from t e (header p.0 q.0) (drop 26 t) r.2 (n.1, k.1) first
    (link 12 t 1 _ _ n.0 (link 12 t 13 _ _ k.0 (end_held t 25 r.0 r.1)))

aligned_only : (x a : ℕ) → aligned x ≡ Ok a → (x ≡ a) × Alignment a
aligned_only x a h =
    let p = cond_only (is_alignment x) (Ok x) Range a h in
    let same : x ≡ a = cc p.1 in
    (same, subst Alignment same (tested_alignment x p.0))

setting_there : (p : ℕ) → p ≤ 1 → setting_number (setting_of p) ≡ p
setting_there zero h = refl
setting_there (suc p) h = omega arith

kind_there : (k n : ℕ) → k ≤ 1 → target_kind (target_of k n) ≡ k
kind_there zero n h = refl
kind_there (suc k) n h = omega arith

number_there : (k n : ℕ) → target_number (target_of k n) ≡ n
number_there zero n = refl
number_there (suc k) n = refl

aimed_there : (k n : ℕ) → n ≤ 65535 → Aimed (λ t. t < 2 ^ 16) (target_of k n)
aimed_there zero n h = omega arith
aimed_there (suc k) n h = omega arith

abbrev Recorded : List ℕ → Record → Type 0
Recorded t r =
    RangedRecord r × ((rest : List ℕ) → drop 73 t ≡ rest → drop 13 t ≡ chained 12 (record_numbers r) rest)

record_only : (t : List ℕ) (r : Record) → record_at t ≡ Ok r → Recorded t r
record_only t r h =
    let f = and_then_only _ _ r h in
    let a = and_then_only _ _ r f.2 in
    let n = and_then_only _ _ r a.2 in
    let k = and_then_only _ _ r n.2 in
    let p = and_then_only _ _ r k.2 in
    let b = and_then_only (natural_at 12 t 25 65536) aligned a.0 a.1 in
    let d = aligned_only b.0 a.0 b.2 in
    let hf = natural_held 12 t 13 4294967295 f.0 narrow f.1 in
    let ha = natural_held 12 t 25 65536 a.0 narrow (b.1 ∙ ap (λ (x : ℕ). Ok x) d.0) in
    let hn = natural_held 12 t 37 65535 n.0 narrow n.1 in
    let hk = natural_held 12 t 49 65535 k.0 narrow k.1 in
    let hp = natural_held 12 t 61 1 p.0 narrow p.1 in
    let s : Setting = setting_of p.0 in
    let back = setting_there p.0 hp.1 in
    let m : Record =
    record { flags = f.0; alignment = a.0; size = n.0; relocations = k.0; setting = s } in
    let same : m ≡ r = cc p.2 in
    subst (Recorded t) same (
      record {
        flags = omega (arith, hf.1);
        alignment = d.1;
        size = omega (arith, hn.1);
        relocations = omega (arith, hk.1);
      },
      λ rest e.
          link 12 t 13 _ _ hf.0
          (
          link 12 t 25 _ _ ha.0
          (
          link 12 t 37 _ _ hn.0
          (
          link 12 t 49 _ _ hk.0
          (link 12 t 61 _ _ hp.0 e ∙ ap (λ x. column 12 (pos x) ++ rest) (sym back))
          )
          )
          ),
    )

section_only : (t : List ℕ) (e : Entry) → get_or t 0 0 ≡ 83 → read_section t ≡ Ok e → Only t e
section_only t e first h =
    let p = and_then_only _ _ e h in
    let q = and_then_only _ _ e p.2 in
    let r = and_then_only _ _ e q.2 in
    let n = natural_held 12 t 1 1023 p.0 narrow p.1 in
    let m = record_only t q.0 q.1 in
    only_from t e (section p.0 q.0) (drop 74 t) r.2 (omega (arith, n.1), m.0) first
    (link 12 t 1 _ _ n.0 (m.1 _ (end_held t 73 r.0 r.1)))

within_only : (low high z d : ℤ) → within low high z ≡ Ok d → (z ≡ d) × (low ≤ℤ d) × (d ≤ℤ high)
within_only low high z d h =
    let p = cond_only (le_z low z && le_z z high) (Ok z) Range d h in
    let q = and_parts (le_z low z) (le_z z high) p.0 in
    let same : z ≡ d = cc p.1 in (
      same,
      subst (λ x. low ≤ℤ x) same (record { le = subst T (sym q.0) tt }),
      subst (λ x. x ≤ℤ high) same (record { le = subst T (sym q.1) tt }),
    )

abbrev Targeted : List ℕ → Target → Type 0
Targeted t target =
    Aimed (λ x. x < 2 ^ 16) target
    × (
    (rest : List ℕ)
    → drop 49 t ≡ rest
    → drop 25 t ≡ chained 12 (pos (target_kind target) ∷ pos (target_number target) ∷ []) rest
    )

target_only : (t : List ℕ) (target : Target) → target_at t ≡ Ok target → Targeted t target
target_only t target h =
    let k = and_then_only _ _ target h in
    let n = and_then_only _ _ target k.2 in
    let hk = natural_held 12 t 25 1 k.0 narrow k.1 in
    let hn = natural_held 12 t 37 65535 n.0 narrow n.1 in
    let same : target_of k.0 n.0 ≡ target = cc n.2 in
    let kind = kind_there k.0 n.0 hk.1 in
    let number = number_there k.0 n.0 in
    subst (Targeted t) same (
      aimed_there k.0 n.0 hn.1,
      λ rest e.
          link 12 t 25 _ _ hk.0 (link 12 t 37 _ _ hn.0 e)
          ∙ ap (λ x. column 12 (pos x) ++ (column 12 (pos n.0) ++ rest)) (sym kind)
          ∙ ap (λ x. column 12 (pos (target_kind (target_of k.0 n.0))) ++ (column 12 (pos x) ++ rest)) (sym number),
    )

relocation_only : (t : List ℕ) (e : Entry) → get_or t 0 0 ≡ 82 → read_relocation t ≡ Ok e → Only t e
relocation_only t e first h =
    let w = and_then_only _ _ e h in
    let z = and_then_only (end_at t 61) _ e w.2 in
    let o = and_then_only _ _ w.0 w.1 in
    let k = and_then_only _ _ w.0 o.2 in
    let g = and_then_only _ _ w.0 k.2 in
    let d = and_then_only _ _ w.0 g.2 in
    let b = and_then_only (column_at 12 t 49) (within lowest (highest g.0)) d.0 d.1 in
    let v = within_only lowest (highest g.0) b.0 d.0 b.2 in
    let ho = natural_held 12 t 1 65534 o.0 narrow o.1 in
    let hk = natural_held 12 t 13 4294967295 k.0 narrow k.1 in
    let hg = target_only t g.0 g.1 in
    let hd = column_held 12 t 49 d.0 narrow (b.1 ∙ ap (λ (x : ℤ). Ok x) v.0) in
    let r : Relocation = record { offset = o.0; kind = k.0; target = g.0; displacement = d.0 } in
    let same : r ≡ w.0 = cc d.2 in
    only_from t e (relocation r) (drop 62 t) (ap (λ x. Ok (relocation x)) same ∙ z.2)
    (
    record {
      offset = omega (arith, ho.1);
      kind = omega (arith, hk.1);
      aimed = hg.0;
      low = v.1;
      high = v.2;
    }
    )
    first
    (
    link 12 t 1 _ _ ho.0
    (link 12 t 13 _ _ hk.0 (hg.1 _ (link 12 t 49 _ _ hd (end_held t 61 z.0 z.1))))
    )

root_only : (t : List ℕ) (e : Entry) → get_or t 0 0 ≡ 84 → read_root t ≡ Ok e → Only t e
root_only t e first h =
    let p = and_then_only _ _ e h in
    let r = and_then_only _ _ e p.2 in
    let n = natural_held 12 t 1 65535 p.0 narrow p.1 in
    only_from t e (root p.0) (drop 14 t) r.2 (omega (arith, n.1)) first
    (link 12 t 1 _ _ n.0 (end_held t 13 r.0 r.1))

end_only : (t : List ℕ) (e : Entry) → get_or t 0 0 ≡ 69 → read_end t ≡ Ok e → Only t e
end_only t e first h =
    let p = and_then_only _ _ e h in
    let r = and_then_only _ _ e p.2 in
    let n = natural_held 12 t 1 1024 p.0 narrow p.1 in
    only_from t e (end p.0) (drop 14 t) r.2 n.1 first
    (link 12 t 1 _ _ n.0 (end_held t 13 r.0 r.1))

abbrev More : ℕ → List ℕ → ℕ → List ℕ → Type 0
More left t at bs =
    (rest : List ℕ) × (drop at t ≡ chained 4 (map pos bs) (10 ∷ rest)) × (length bs ≤ left) × AllByRecursion (λ b. b < 2 ^ 8) bs

more_push : (left : ℕ) (t : List ℕ) (at b : ℕ) (bs : List ℕ)
    → natural_at 4 t at 255 ≡ Ok b
    → More left t (at + 4) bs
    → More (suc left) t at (b ∷ bs)
more_push left t at b bs h m =
    let p = natural_held 4 t at 255 b four h in
    (m.0, link 4 t at (pos b) _ p.0 m.1, omega (arith, m.2), (omega (arith, p.1), m.3))

more_only : (left : ℕ) (t : List ℕ) (at : ℕ) (bs : List ℕ) → more_bytes left t at ≡ Ok bs → More left t at bs
unfolding more_bytes
more_only zero t at bs h =
    let p = and_then_only (end_at t at) _ bs h in
    let none : [] ≡ bs = cc p.2 in
    subst (More 0 t at) none (drop (at + 1) t, end_held t at p.0 p.1, omega arith, tt)
more_only (suc left) t at bs h = go (eqb (get_or t at 0) 10) refl h (λ cs k. more_only left t (at + 4) cs k)
  where
    go : (b : Bool)
        → eqb (get_or t at 0) 10 ≡ b
        → cond b (Ok [])
        (and_then (natural_at 4 t at 255) λ b. and_then (more_bytes left t (at + 4)) λ bs. Ok (b ∷ bs))
        ≡ Ok bs
        → ((cs : List ℕ) → more_bytes left t (at + 4) ≡ Ok cs → More left t (at + 4) cs)
        → More (suc left) t at bs
    go true ten k rest =
        let none : [] ≡ bs = cc k in
        let end : end_at t at ≡ Ok (at + 1) = cond-true (eqb (get_or t at 0) 10) _ _ ten in
        subst (More (suc left) t at) none (drop (at + 1) t, end_held t at (at + 1) end, omega arith, tt)
    go false other k rest =
        let p = and_then_only (natural_at 4 t at 255) _ bs k in
        let q = and_then_only (more_bytes left t (at + 4)) _ bs p.2 in
        let same : p.0 ∷ q.0 ≡ bs = cc q.2 in
        subst (More (suc left) t at) same (more_push left t at p.0 q.0 p.1 (rest q.0 q.1))

row_bytes_only : (t bs : List ℕ) → row_bytes t ≡ Ok bs → More 16 t 1 bs × (0 < length bs)
row_bytes_only t bs h =
    let p = and_then_only (natural_at 4 t 1 255) _ bs h in
    let q = and_then_only (more_bytes 15 t 5) _ bs p.2 in
    let same : p.0 ∷ q.0 ≡ bs = cc q.2 in
    subst (λ x. More 16 t 1 x × (0 < length x)) same
    (more_push 15 t 1 p.0 q.0 p.1 (more_only 15 t 5 q.0 q.1), omega arith)

bytes_only : (t : List ℕ) (e : Entry) → get_or t 0 0 ≡ 66 → read_bytes t ≡ Ok e → Only t e
bytes_only t e first h =
    let p = and_then_only (row_bytes t) _ e h in
    let m = row_bytes_only t p.0 p.1 in
    only_from t e (bytes p.0) m.0.0 p.2 (m.1, m.0.2, m.0.3) first m.0.1

-- one letter, or the next
branch : (P : Type 0) (c k : ℕ) (x y : Result Entry Cause) (e : Entry)
    → cond (eqb c k) x y ≡ Ok e
    → (c ≡ k → x ≡ Ok e → P)
    → (y ≡ Ok e → P)
    → P
branch P c k x y e h here next = go (eqb c k) refl h
  where
    go : (b : Bool) → eqb c k ≡ b → cond b x y ≡ Ok e → P
    go true t r = here (eqb-true c k t) r
    go false t r = next r

none_ok : (P : Type 0) (c : Cause) (e : Entry) → ◌≡◌ {A = Result Entry Cause} (Err c) (Ok e) → P
none_ok P c e h = cc

pub row_only : (t : List ℕ) (e : Entry)
    → read_row t ≡ Ok e
    → Ranged e × (t ≡ render e ++ drop (length (render e)) t)
unfolding read_row
row_only t e h =
    branch (Only t e) (get_or t 0 0) 72 _ _ e h (λ c r. header_only t e c r) λ h.
    branch (Only t e) (get_or t 0 0) 83 _ _ e h (λ c r. section_only t e c r) λ h.
    branch (Only t e) (get_or t 0 0) 66 _ _ e h (λ c r. bytes_only t e c r) λ h.
    branch (Only t e) (get_or t 0 0) 82 _ _ e h (λ c r. relocation_only t e c r) λ h.
    branch (Only t e) (get_or t 0 0) 84 _ _ e h (λ c r. root_only t e c r) λ h.
    branch (Only t e) (get_or t 0 0) 69 _ _ e h (λ c r. end_only t e c r) λ h.
    none_ok (Only t e) Letter e h

-- a row's length, and its bytes

length_numbers : (e : Entry) → 2 + width e * length (numbers e) ≡ row_length e
length_numbers (header n k) = refl
length_numbers (section s r) = refl
length_numbers (bytes bs) = ap (λ n. 2 + 4 * n) (length-map bs pos)
length_numbers (relocation r) = refl
length_numbers (root s) = refl
length_numbers (end k) = refl

pub render_length : (e : Entry) → Ranged e → length (render e) ≡ row_length e
render_length e h =
    let fit = All-weaker (Fits (width e)) (λ z. length (signed_decimal z) ≤ width e) (λ z f. f.0) (numbers e) (fits e h) in
    let long = length_columns (width e) (numbers e) fit in
    let all = length-append (columns (width e) (numbers e)) (10 ∷ []) in
    let sum : length (render e) ≡ 2 + width e * length (numbers e) = omega (arith, long, all) in
    sum ∙ length_numbers e

letter_plain : (e : Entry) → 10 < letter e
letter_plain (header n k) = omega arith
letter_plain (section s r) = omega arith
letter_plain (bytes bs) = omega arith
letter_plain (relocation r) = omega arith
letter_plain (root s) = omega arith
letter_plain (end k) = omega arith

-- the only 10 of a row is its last byte
pub render_plain : (e : Entry) → Ranged e → AllByRecursion (λ b. 10 < b) (letter e ∷ columns (width e) (numbers e))
render_plain e h = (
  letter_plain e,
  columns_plain (width e) (numbers e)
      (All-weaker (Fits (width e)) (λ z. mag z < 2 ^ 63) (λ z f. f.1) (numbers e) (fits e h)),
)

-- column k of a B row
pub byte_column : (bs : List ℕ) (k : ℕ) (t : List ℕ)
    → Ranged (bytes bs)
    → k < length bs
    → read_column (take 4 (drop (1 + 4 * k) (render (bytes bs) ++ t))) ≡ Some (pos (get_or bs k 0))
byte_column bs k t h low =
    let zs : List ℤ = map pos bs in
    let more : k < length zs = omega (arith, length-map bs pos) in
    let fit = fits (bytes bs) h in
    let here = All-get_or (Fits 4) zs k (pos 0) more fit in
    let rest : List ℕ = chained 4 (drop (k + 1) zs) (10 ∷ t) in
    let text : drop (1 + 4 * k) (render (bytes bs) ++ t) ≡ column 4 (get_or zs k (pos 0)) ++ rest =
    ap (drop (1 + 4 * k)) (rendered (bytes bs) t)
    ∙ at_column 4 k zs 66 (10 ∷ t) (omega arith) fit
    ∙ ap (λ x. chained 4 x (10 ∷ t)) (drop_more zs k (pos 0) more) in
    ap (λ x. read_column (take 4 x)) text
    ∙ ap read_column (take_at (column 4 (get_or zs k (pos 0))) rest 4 (length_column 4 (get_or zs k (pos 0)) here.0))
    ∙ column_reads 4 (get_or zs k (pos 0)) here.1
    ∙ ap (λ (z : ℤ). Some z) (get_or-map pos bs k 0 (pos 0) low)

-- what the code reads off a B row

counted_only : (r : Result (List ℕ) Cause) (n : ℕ) → counted r ≡ Ok n → (bs : List ℕ) × (r ≡ Ok bs) × (length bs ≡ n)
counted_only (Ok bs) n h = (bs, refl, cc)
counted_only (Err e) n h = cc

counted_err : (r : Result (List ℕ) Cause) (e : Cause) → counted r ≡ Err e → r ≡ Err e
counted_err (Ok bs) e h = cc
counted_err (Err d) e h = cc

pub bytes_refused : (t : List ℕ) (e : Cause) → counted (row_bytes t) ≡ Err e → read_bytes t ≡ Err e
bytes_refused t e h = ap (λ r. and_then r λ bs. Ok (bytes bs)) (counted_err (row_bytes t) e h)

pub length_values : (n : ℕ) (t : List ℕ) → length (values n t) ≡ n
length_values zero t = refl
length_values (suc n) t = ap suc (length_values n (drop 4 t))

values_chained : (bs rest : List ℕ) → AllByRecursion (λ b. b < 2 ^ 8) bs → values (length bs) (chained 4 (map pos bs) rest) ≡ bs
values_chained [] rest h = refl
values_chained (b ∷ bs) rest h =
    let fit = fit_byte b h.0 in
    let long = length_column 4 (pos b) fit.0 in
    let more : List ℕ = chained 4 (map pos bs) rest in
    let here : read_column (take 4 (column 4 (pos b) ++ more)) ≡ Some (pos b) =
    ap read_column (take_at (column 4 (pos b)) more 4 long) ∙ column_reads 4 (pos b) fit.1 in
    ap (λ o. value o ∷ values (length bs) (drop 4 (column 4 (pos b) ++ more))) here
    ∙ ap (λ x. b ∷ values (length bs) x) (drop_at (column 4 (pos b)) more 4 long)
    ∙ ap (λ x. b ∷ x) (values_chained bs rest h.1)

pub record Counted (t : List ℕ) (n : ℕ) : Type 0 where
  pub room : 2 + 4 * n ≤ length t
  pub read : read_bytes t ≡ Ok (bytes (byte_values n (take (2 + 4 * n) t)))

pub bytes_counted : (t : List ℕ) (n : ℕ) → counted (row_bytes t) ≡ Ok n → Counted t n
bytes_counted t n h =
    let p = counted_only (row_bytes t) n h in
    let bs : List ℕ = p.0 in
    let zs : List ℤ = map pos bs in
    let m = row_bytes_only t bs p.1 in
    let rest : List ℕ = m.0.0 in
    let fit = All-weaker (Fits 4) (λ z. length (signed_decimal z) ≤ 4) (λ z f. f.0) zs (fit_bytes bs m.0.3) in
    let long : length (columns 4 zs) ≡ 4 * n = length_columns 4 zs fit ∙ ap (λ k. 4 * k) (length-map bs pos ∙ p.2) in
    let front : List ℕ = columns 4 zs ++ (10 ∷ []) in
    let whole : drop 1 t ≡ front ++ rest =
    m.0.1 ∙ sym (columns_chained 4 zs (10 ∷ rest)) ∙ sym (append_assoc (columns 4 zs) (10 ∷ []) rest) in
    let size : length front ≡ 1 + 4 * n = omega (arith, length-append (columns 4 zs) (10 ∷ []), long) in
    let all = ap length whole ∙ length-append front rest in
    let cut : drop 1 (take (1 + (1 + 4 * n)) t) ≡ chained 4 zs (10 ∷ []) =
    drop-take 1 (1 + 4 * n) t
    ∙ ap (take (1 + 4 * n)) whole
    ∙ take_at front rest (1 + 4 * n) size
    ∙ columns_chained 4 zs (10 ∷ []) in
    let two : 1 + (1 + 4 * n) ≡ 2 + 4 * n = omega arith in
    let told : byte_values n (take (2 + 4 * n) t) ≡ bs =
    ap (λ k. values n (drop 1 (take k t))) (sym two)
    ∙ ap (values n) cut
    ∙ ap (λ k. values k (chained 4 zs (10 ∷ []))) (sym p.2)
    ∙ values_chained bs (10 ∷ []) m.0.3 in
    record {
      room = omega (arith, all, size, length-drop 1 t);
      read = ap (λ r. and_then r λ bs. Ok (bytes bs)) p.1 ∙ ap (λ x. Ok (bytes x)) (sym told);
    }

-- the front of the text that is as long as the row is the row's text
pub occupies : (t : List ℕ) (r : Result Row Cause) → answer r ≡ read_row t → Cut t r → Occupies r
occupies t (Ok r) h cut =
    let p = row_only t (told r) (sym h) in
    let long = render_length (told r) p.0 in
    cut
    ∙ ap (λ n. take n t) (sym long)
    ∙ ap (take (length (render (told r)))) p.1
    ∙ take_at (render (told r)) (drop (length (render (told r))) t) (length (render (told r))) refl
occupies t (Err e) h cut = tt
