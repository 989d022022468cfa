-- Rows are read as they are written, and nothing else is read.
use Rattle.std.proofs.Common.{◌≡◌, ℕ, ◌+◌, ◌^◌, ◌<◌, ◌≤◌, Bool, true, false, cond, ◌&&◌, eqb, leb, ltb, List, [], ◌∷◌, ◌++◌, length, get_or, drop, pos, Some, Ok, Err, Result, sym, refl, ap, ◌∙◌, subst, arith}
use Rattle.std.proofs.lemmas.List.{drop_all}
use Rattle.std.proofs.lemmas.Bool.{eqb-true, eq-eqb, leb-true, le-leb, ltb-true, lt-ltb, and_parts, cond-true}
use Rattle.column.specs.Columns.{column, columns}
use Rattle.column.proofs.Columns.{signed_of_natural}
use Rattle.row_part.specs.declared.Cause.{Cause}
use Rattle.row_part.specs.declared.Cause.TheVariants.{Letter, Range}
use Rattle.row_part.proofs.Parts.{Fits, and_then_from, and_then_only, cond_only, Held, natural_held, end_held, natural_read, end_read, next_column, columns_chained}
use Rattle.row_writer.specs.Writing.{row_text}
use Rattle.row_writer.proofs.Moved.{moved_length}
use Rattle.row_writer.specs.declared.Outcome.TheVariants.{Own as Itself, Other as Another, Swept as Nowhere}
use Rattle.fates.specs.declared.Fate.{Fate}
use Rattle.fates.specs.declared.Fate.TheVariants.{Own, Folded, Swept}
use Rattle.fates.specs.Rows.{fate_row, fate_by, row_columns, read_row}

-- the outcome and the place that tell a section's fate
abbrev pub told : ℕ → Fate → ℕ × ℕ
told s Own = (1, s)
told s (Folded p) = (2, p)
told s Swept = (3, 0)

-- a section that was folded is found at a lower number
abbrev pub Lower : ℕ → Fate → Type 0
Lower s Own = Unit {0}
Lower s (Folded p) = p < s
Lower s Swept = Unit {0}

row_of : (s : ℕ) (f : Fate) → fate_row s (Some f) ≡ row_text 77 12 (pos s ∷ (pos (told s f).0 ∷ (pos (told s f).1 ∷ [])))
row_of s Own = refl
row_of s (Folded p) = refl
row_of s Swept = refl

narrow : 12 ≤ 18
narrow = omega arith

some : 0 < 12
some = omega arith

fit : (n : ℕ) → n < 2 ^ 32 → Fits 12 (pos n)
fit n h = (signed_of_natural n h, omega arith)

pub row_length : (s : ℕ) (f : Fate) → s < 1024 → Lower s f → length (fate_row s (Some f)) ≡ 38
row_length s Own h l = moved_length s s Itself (omega arith) (omega arith)
row_length s (Folded p) h l = moved_length s p Another (omega arith) (omega arith)
row_length s Swept h l = moved_length s 0 Nowhere (omega arith) (omega arith)

-- the fate that is told is read

fate_back : (s : ℕ) (f : Fate) → Lower s f → fate_by s (told s f).0 (told s f).1 ≡ Ok f
fate_back s Own l = cond-true (eqb s s) _ _ (eq-eqb s s refl)
fate_back s (Folded p) l = cond-true (ltb p s) _ _ (lt-ltb p s l)
fate_back s Swept l = refl

small : (s : ℕ) (f : Fate) → s < 1024 → Lower s f → ((told s f).0 ≤ 3) × ((told s f).1 ≤ 1023)
small s Own h l = (omega arith, omega arith)
small s (Folded p) h l = (omega arith, omega arith)
small s Swept h l = (omega arith, omega arith)

pub row_reads : (low s : ℕ) (f : Fate) → s < 1024 → low ≤ s → Lower s f → read_row low (fate_row s (Some f)) ≡ Ok (s, f)
unfolding read_row
row_reads low s f h late l =
    let o : ℕ = (told s f).0 in
    let p : ℕ = (told s f).1 in
    let few = small s f h l in
    let fs = fit s (omega arith) in
    let fo = fit o (omega (arith, few.0)) in
    let fp = fit p (omega (arith, few.1)) in
    let end : List ℕ = 10 ∷ [] in
    let t : List ℕ = 77 ∷ (column 12 (pos s) ++ (column 12 (pos o) ++ (column 12 (pos p) ++ end))) in
    let a : drop 1 t ≡ column 12 (pos s) ++ (column 12 (pos o) ++ (column 12 (pos p) ++ end)) = refl in
    let b : drop 13 t ≡ column 12 (pos o) ++ (column 12 (pos p) ++ end) = next_column 12 t 1 (pos s) _ a fs.0 in
    let c : drop 25 t ≡ column 12 (pos p) ++ end = next_column 12 t 13 (pos o) _ b fo.0 in
    let d : drop 37 t ≡ end = next_column 12 t 25 (pos p) _ c fp.0 in
    ap (read_row low) (row_of s f ∙ ap (λ (x : List ℕ). 77 ∷ x) (columns_chained 12 (pos s ∷ (pos o ∷ (pos p ∷ []))) end))
    ∙ and_then_from _ _ s _ (natural_read 12 t 1 1023 s _ some narrow a fs (omega arith))
    (
    and_then_from _ _ o _ (natural_read 12 t 13 3 o _ some narrow b fo few.0)
    (
    and_then_from _ _ p _ (natural_read 12 t 25 1023 p _ some narrow c fp few.1)
    (
    and_then_from _ _ f _ (fate_back s f l)
    (and_then_from _ _ 38 _ (end_read t 37 [] d) (cond-true (leb low s) _ _ (le-leb low s late)))
    )
    )
    )

-- only the fate that is told is read

record Tells (s o p : ℕ) (f : Fate) : Type 0 where
  outcome : (told s f).0 ≡ o
  place : (told s f).1 ≡ p
  lower : Lower s f

fate_only : (s o p : ℕ) (f : Fate) → fate_by s o p ≡ Ok f → Tells s o p f
fate_only s o p f h = first (eqb o 1 && eqb p s) refl h
  where
    third : (b : Bool) → (eqb o 3 && eqb p 0) ≡ b → cond b (Ok Swept) (Err Range) ≡ Ok f → Tells s o p f
    third true e k =
        let q = and_parts (eqb o 3) (eqb p 0) e in
        let same : Swept ≡ f = cc in
        subst (Tells s o p) same (record { outcome = sym (eqb-true o 3 q.0); place = sym (eqb-true p 0 q.1); lower = tt })
    third false e k = absurd (let z : ◌≡◌ {A = ℕ} 0 1 = cc in omega arith)

    second : (b : Bool) → (eqb o 2 && ltb p s) ≡ b → cond b (Ok (Folded p)) (cond (eqb o 3 && eqb p 0) (Ok Swept) (Err Range)) ≡ Ok f → Tells s o p f
    second true e k =
        let q = and_parts (eqb o 2) (ltb p s) e in
        let same : Folded p ≡ f = cc in
        subst (Tells s o p) same (record { outcome = sym (eqb-true o 2 q.0); place = refl; lower = ltb-true p s q.1 })
    second false e k = third (eqb o 3 && eqb p 0) refl k

    first : (b : Bool) → (eqb o 1 && eqb p s) ≡ b
        → cond b (Ok Own) (cond (eqb o 2 && ltb p s) (Ok (Folded p)) (cond (eqb o 3 && eqb p 0) (Ok Swept) (Err Range))) ≡ Ok f
        → Tells s o p f
    first true e k =
        let q = and_parts (eqb o 1) (eqb p s) e in
        let same : Own ≡ f = cc in
        subst (Tells s o p) same (record { outcome = sym (eqb-true o 1 q.0); place = sym (eqb-true p s q.1); lower = tt })
    first false e k = second (eqb o 2 && ltb p s) refl k

first_byte : (t : List ℕ) → get_or t 0 0 ≡ 77 → t ≡ 77 ∷ drop 1 t
first_byte [] h = absurd (omega (arith, h))
first_byte (b ∷ t) h = ap (λ (x : ℕ). x ∷ t) h

-- a text of at most 38 bytes that is read is the row of what it tells
pub record Row (low : ℕ) (t : List ℕ) (s : ℕ) (f : Fate) : Type 0 where
  pub late : low ≤ s
  pub few : s < 1024
  pub lower : Lower s f
  pub text : length t ≤ 38 → t ≡ fate_row s (Some f)

row_made : (low : ℕ) (t : List ℕ) (s o p : ℕ) (f : Fate) → low ≤ s → s ≤ 1023 → Tells s o p f → get_or t 0 0 ≡ 77
    → Held 12 t 1 (pos s)
    → Held 12 t 13 (pos o)
    → Held 12 t 25 (pos p)
    → drop 37 t ≡ 10 ∷ drop 38 t
    → Row low t s f
row_made low t s o p f late few tells first a b c end =
    let last : length t ≤ 38 → drop 37 t ≡ 10 ∷ [] = λ short. end ∙ ap (λ (x : List ℕ). 10 ∷ x) (drop_all 38 t short) in
    let numbers : length t ≤ 38 → drop 1 t ≡ columns 12 (pos s ∷ (pos o ∷ (pos p ∷ []))) ++ 10 ∷ [] = λ short.
    a.there
    ∙ ap (λ x. column 12 (pos s) ++ x)
    (b.there ∙ ap (λ x. column 12 (pos o) ++ x) (c.there ∙ ap (λ x. column 12 (pos p) ++ x) (last short)))
    ∙ sym (columns_chained 12 (pos s ∷ (pos o ∷ (pos p ∷ []))) (10 ∷ []))
    in
    record {
      late = late;
      few = omega (arith, few);
      lower = tells.lower;
      text = λ short.
          first_byte t first
          ∙ ap (λ (x : List ℕ). 77 ∷ x) (numbers short)
          ∙ ap (λ n. row_text 77 12 (pos s ∷ (pos n ∷ (pos p ∷ [])))) (sym tells.outcome)
          ∙ ap (λ n. row_text 77 12 (pos s ∷ (pos (told s f).0 ∷ (pos n ∷ [])))) (sym tells.place)
          ∙ sym (row_of s f);
    }

same_pair : (a s : ℕ) (d f : Fate) → ◌≡◌ {A = Result (ℕ × Fate) Cause} (Ok (a, d)) (Ok (s, f)) → (a ≡ s) × (d ≡ f)
same_pair a s d f h =
    let same : ◌≡◌ {A = ℕ × Fate} (a, d) (s, f) = cc in
    (ap (λ (p : ℕ × Fate). p.0) same, ap (λ (p : ℕ × Fate). p.1) same)

pub row_only : (low : ℕ) (t : List ℕ) (s : ℕ) (f : Fate) → read_row low t ≡ Ok (s, f) → Row low t s f
unfolding read_row
row_only low t s f h =
    let first = cond_only (eqb (get_or t 0 0) 77) (row_columns low t) Letter (s, f) h in
    let a = and_then_only _ _ (s, f) first.1 in
    let b = and_then_only _ _ (s, f) a.2 in
    let c = and_then_only _ _ (s, f) b.2 in
    let d = and_then_only _ _ (s, f) c.2 in
    let e = and_then_only _ _ (s, f) d.2 in
    let last = cond_only (leb low a.0) (Ok (a.0, d.0)) Range (s, f) e.2 in
    let same = same_pair a.0 s d.0 f last.1 in
    let na = natural_held 12 t 1 1023 a.0 narrow a.1 in
    let nb = natural_held 12 t 13 3 b.0 narrow b.1 in
    let nc = natural_held 12 t 25 1023 c.0 narrow c.1 in
    let row =
    row_made low t a.0 b.0 c.0 d.0 (leb-true low a.0 last.0) na.1 (fate_only a.0 b.0 c.0 d.0 d.1) (eqb-true (get_or t 0 0) 77 first.0) na.0 nb.0 nc.0 (end_held t 37 e.0 e.1) in
    subst (λ x. Row low t x f) same.0 (subst (Row low t a.0) same.1 row)
