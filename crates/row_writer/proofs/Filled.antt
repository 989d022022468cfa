-- Columns written one after another over the front of a buffer.
use Rattle.std.proofs.Common.{◌≡◌, ℕ, suc, ◌+◌, ◌-◌, ◌<◌, ◌≤◌, List, [], ◌∷◌, ◌++◌, map, length, get_or, take, drop, set, sum_by, ℤ, pos, sym, refl, ap, ◌∙◌, append_assoc, one-add, arith}
use borrow.Rule.Slice.PartMut.{put_mid}
use Rattle.std.proofs.lemmas.List.{append-nil, length-append, length-drop, length-take-le, take-append-drop, take_all, take_at, drop_all, drop_at, drop-drop, drop_more, set_at, get_or-map, length-map, take_more}
use Rattle.std.proofs.lemmas.List.Recursion.{is_sum_by}
use Rattle.column.specs.Columns.{column, columns}
use Rattle.row_writer.specs.Writing.{over, row_text, Wide}
use Rattle.row_writer.proofs.Puts.{length_over}

columns_append : (w : ℕ) (xs ys : List ℤ) → columns w (xs ++ ys) ≡ columns w xs ++ columns w ys
columns_append w [] ys = refl
columns_append w (x ∷ xs) ys =
    ap (λ t. column w x ++ t) (columns_append w xs ys) ∙ sym (append_assoc (column w x) (columns w xs) (columns w ys))

-- the columns of the first i numbers
abbrev pub so_far : ℕ → List ℤ → ℕ → List ℕ
so_far w zs i = columns w (take i zs)

pub so_far_more : (w : ℕ) (zs : List ℤ) (i : ℕ)
    → i < length zs
    → so_far w zs (i + 1) ≡ so_far w zs i ++ column w (get_or zs i (pos 0))
so_far_more w zs i low =
    ap (columns w) (take_more zs i (pos 0) low)
    ∙ columns_append w (take i zs) (get_or zs i (pos 0) ∷ [])
    ∙ ap (λ x. so_far w zs i ++ x) (append-nil (column w (get_or zs i (pos 0))))

pub so_far_all : (w : ℕ) (zs : List ℤ) (i : ℕ) → length zs ≤ i → so_far w zs i ≡ columns w zs
so_far_all w zs i h = ap (columns w) (take_all i zs h)

so_far_within : (w : ℕ) (zs : List ℤ) (i : ℕ) → length (so_far w zs i) ≤ length (columns w zs)
so_far_within w zs i =
    let whole : columns w zs ≡ so_far w zs i ++ columns w (drop i zs) =
    ap (columns w) (sym (take-append-drop i zs)) ∙ columns_append w (take i zs) (drop i zs) in
    omega (arith, ap length whole, length-append (so_far w zs i) (columns w (drop i zs)))

pub length_more : (w : ℕ) (zs : List ℤ) (i r : ℕ)
    → i < length zs
    → Wide w (get_or zs i (pos 0)) r
    → length (so_far w zs i) + r ≡ length (so_far w zs (i + 1))
length_more w zs i r low wide =
    omega (
      arith,
      ap length (so_far_more w zs i low),
      length-append (so_far w zs i) (column w (get_or zs i (pos 0))),
      wide.long,
    )

pub room_more : (w : ℕ) (zs : List ℤ) (i at r : ℕ) (b : List ℕ)
    → i < length zs
    → length (columns w zs) ≤ length b
    → at ≡ length (so_far w zs i)
    → Wide w (get_or zs i (pos 0)) r
    → at + r ≤ length b
room_more w zs i at r b low room e wide =
    omega (arith, length_more w zs i r low wide, so_far_within w zs (i + 1), e, room)

-- one text behind another, over the front
pub over_more : (at r : ℕ) (x y b : List ℕ)
    → at ≡ length x
    → r ≡ length y
    → at + r ≤ length b
    → put_mid at (at + r - at) (over x b) y ≡ over (x ++ y) b
over_more at r x y b ex ey room =
    let size : at + r - at ≡ r = omega arith in
    let both : at + r ≡ length (x ++ y) = omega (arith, length-append x y) in
    let rest : drop (length x) b ≡ drop at b = ap (λ n. drop n b) (sym ex) in
    let first : take at (over x b) ≡ x = take_at x (drop (length x) b) at (sym ex) in
    let last : drop (at + r - at) (drop at (over x b)) ≡ drop (length (x ++ y)) b =
    ap (λ n. drop n (drop at (over x b))) size
    ∙ ap (drop r) (drop_at x (drop (length x) b) at (sym ex) ∙ rest)
    ∙ drop-drop r at b
    ∙ ap (λ n. drop n b) both in
    ap (λ z. z ++ (y ++ drop (at + r - at) (drop at (over x b)))) first
    ∙ ap (λ z. x ++ (y ++ z)) last
    ∙ sym (append_assoc x y (drop (length (x ++ y)) b))

pub write_more : (w : ℕ) (zs : List ℤ) (i at r : ℕ) (out b last : List ℕ)
    → i < length zs
    → length (columns w zs) ≤ length b
    → at ≡ length (so_far w zs i)
    → out ≡ over (so_far w zs i) b
    → Wide w (get_or zs i (pos 0)) r
    → last ≡ column (length (take (at + r - at) (drop at out))) (get_or zs i (pos 0))
    → (at + r ≡ length (so_far w zs (i + 1))) × (put_mid at (at + r - at) out last ≡ over (so_far w zs (i + 1)) b)
write_more w zs i at r out b last low room ea eo wide el =
    let z : ℤ = get_or zs i (pos 0) in
    let within = room_more w zs i at r b low room ea wide in
    let same : length out ≡ length b = ap length eo ∙ length_over (so_far w zs i) b (omega (arith, within)) in
    let size : at + r - at ≡ r = omega arith in
    let part : length (take (at + r - at) (drop at out)) ≡ r =
    ap (λ n. length (take n (drop at out))) size
    ∙ length-take-le r (drop at out) (omega (arith, length-drop at out, within, same)) in
    let text : last ≡ column w z = el ∙ ap (λ n. column n z) part ∙ wide.same in (
      ap (λ n. n + r) ea ∙ length_more w zs i r low wide,
      ap (λ x. put_mid at (at + r - at) x last) eo
          ∙ ap (λ x. put_mid at (at + r - at) (over (so_far w zs i) b) x) text
          ∙ over_more at r (so_far w zs i) (column w z) b ea wide.long within
          ∙ ap (λ x. over x b) (sym (so_far_more w zs i low)),
    )

-- a cell of a row, as the code has it
pub cell_at : {X : Type 0} (v : X → ℤ) (cells : List X) (i : ℕ) (x : X)
    → i < length cells
    → x ≡ get_or cells i x
    → (i < length (map v cells)) × (v x ≡ get_or (map v cells) i (pos 0))
cell_at v cells i x low is = (omega (arith, length-map cells v), ap v is ∙ sym (get_or-map v cells i x (pos 0) low))

-- how long the columns are
length_by_sum : {X : Type 0} (w : ℕ) (v : X → ℤ) (cells : List X)
    → length (columns w (map v cells)) ≡ sum_by (λ x. length (column w (v x))) cells
length_by_sum w v cells =
    is_sum_by (λ xs. length (columns w (map v xs))) (λ x. length (column w (v x))) refl
    (λ x xs. length-append (column w (v x)) (columns w (map v xs))) cells

-- a letter before the columns, and byte 10 behind them

pub length_row : (c : ℕ) (cols : List ℕ) → length (c ∷ (cols ++ 10 ∷ [])) ≡ length cols + 2
length_row c cols = omega (arith, length-append cols (10 ∷ []))

-- the length that a row of numbers needs
pub length_needed : {X : Type 0} (c w : ℕ) (v : X → ℤ) (cells : List X) (n : ℕ)
    → n ≡ sum_by (λ x. length (column w (v x))) cells
    → n + 2 ≡ length (row_text c w (map v cells))
length_needed c w v cells n e = omega (arith, e, length_by_sum w v cells, length_row c (columns w (map v cells)))

pub row_filled : (c : ℕ) (cols b last : List ℕ) (stop : ℕ)
    → length (c ∷ (cols ++ 10 ∷ [])) ≤ length b
    → last ≡ over cols (take (length b - 1) (drop 1 b))
    → stop ≡ length cols
    → set (set (put_mid 1 (length b - 1) b last) 0 c) (1 + stop) 10 ≡ over (c ∷ (cols ++ 10 ∷ [])) b
row_filled c cols [] last stop room el es = absurd (omega (arith, length_row c cols))
row_filled c cols (x ∷ xs) last stop wide el es =
    let room : length cols + 2 ≤ suc (length xs) = omega (arith, length_row c cols, wide) in
    let short : suc (length xs) - 1 ≡ length xs = omega arith in
    let part : take (suc (length xs) - 1) xs ≡ xs = take_all (suc (length xs) - 1) xs (omega arith) in
    let none : drop (suc (length xs) - 1) xs ≡ [] = drop_all (suc (length xs) - 1) xs (omega arith) in
    let ys : List ℕ = drop (length cols + 1) xs in
    let here : drop (length cols) xs ≡ get_or xs (length cols) 0 ∷ ys = drop_more xs (length cols) 0 (omega arith) in
    let text : last ≡ cols ++ (get_or xs (length cols) 0 ∷ ys) =
    el ∙ ap (over cols) part ∙ ap (λ z. cols ++ z) here in
    let long : length cols + 1 ≡ length (cols ++ 10 ∷ []) = omega (arith, length-append cols (10 ∷ [])) in
    ap (λ n. set (set (put_mid 1 (suc (length xs) - 1) (x ∷ xs) last) 0 c) n 10) (one-add stop)
    ∙ ap (λ z. c ∷ set (last ++ z) stop 10) none
    ∙ ap (λ z. c ∷ set z stop 10) (append-nil last ∙ text)
    ∙ ap (λ z. c ∷ z) (set_at cols (get_or xs (length cols) 0) ys 10 stop (sym es))
    ∙ ap (λ n. c ∷ (cols ++ (10 ∷ drop n xs))) long
    ∙ ap (λ z. c ∷ z) (sym (append_assoc cols (10 ∷ []) (drop (length (cols ++ 10 ∷ [])) xs)))
