-- The row that a text begins with, and its lines.
use Rattle.std.proofs.Common.{◌≡◌, ℕ, ◌+◌, ◌<◌, ◌≤◌, List, ◌∷◌, ◌++◌, length, drop, Ok, Err, Result, sym, refl, ap, ◌∙◌, subst, arith}
use Rattle.std.proofs.lemmas.List.{length-append, length-drop}
use Rattle.std.specs.List.{AllByRecursion, concat}
use Rattle.lines.specs.Lines.{lines}
use Rattle.lines.proofs.Rows.{whole_lines, OneRow, one_lines, first_row}
use Rattle.row.specs.declared.Cause.{Cause}
use Rattle.row.specs.Entry.{Entry, render}
use Rattle.row.specs.Reading.{read_row}
use Rattle.row.proofs.Rows.{row_reads, row_only}
use Rattle.layout.proofs.Texts.{lines_render, line_exact}

-- it is the first line
pub first_taken : (t : List ℕ) (e : Entry) → read_row t ≡ Ok e → lines t ≡ render e ∷ lines (drop (length (render e)) t)
first_taken t e h =
    let p = row_only t e h in
    ap lines p.1 ∙ lines_render e p.0 (drop (length (render e)) t)

-- where a text begins with no row, its first line is none
pub first_refused : (t : List ℕ) (c : Cause) → 0 < length t → read_row t ≡ Err c
    → (l : List ℕ) × (ls : List (List ℕ)) × (lines t ≡ l ∷ ls) × ((d : Cause) × (read_row l ≡ Err d))
first_refused t c some h =
    let f = first_row t some in
    (f.0, f.1, f.2, go f.0 f.1 f.2 (read_row f.0) refl)
  where
    go : (l : List ℕ) (ls : List (List ℕ)) → lines t ≡ l ∷ ls → (x : Result Entry Cause) → read_row l ≡ x → (d : Cause) × (x ≡ Err d)
    go l ls f (Err d) x = (d, refl)
    go l ls f (Ok e) x =
        let one : OneRow l = (subst (λ (ys : List (List ℕ)). AllByRecursion OneRow ys) f (one_lines t)).0 in
        let text : t ≡ render e ++ concat ls = sym (whole_lines t) ∙ ap concat f ∙ ap (λ (y : List ℕ). y ++ concat ls) (line_exact l e one x) in
        let read : read_row t ≡ Ok e = ap read_row text ∙ row_reads e (row_only l e x).0 (concat ls) in
        absurd (let z : ◌≡◌ {A = ℕ} 0 1 = cc in omega arith)

-- it ends in the text
pub row_fits : (t : List ℕ) (at : ℕ) (e : Entry) → read_row (drop at t) ≡ Ok e → at ≤ length t → at + length (render e) ≤ length t
row_fits t at e h inside =
    let p = row_only (drop at t) e h in
    let long : length (drop at t) ≡ length (render e) + length (drop (length (render e)) (drop at t)) = ap length p.1 ∙ length-append (render e) _ in
    omega (arith, length-drop at t)
