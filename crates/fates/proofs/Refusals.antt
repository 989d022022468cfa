-- Where a row is refused, no map agrees with the text so far.
use Rattle.std.proofs.Common.{◌≡◌, ℕ, zero, suc, ◌+◌, ◌*◌, ◌<◌, ◌≤◌, ◌⊎◌, List, length, take, drop, Some, None, Ok, Err, Option, Result, sym, refl, ap, ◌∙◌, inl, inr, arith}
use Rattle.std.specs.List.{range_with_len, find}
use Rattle.std.proofs.lemmas.List.{length-take, take-take, drop-take}
use Rattle.std.proofs.lemmas.Bool.{cases_lt}
use Rattle.fault.specs.declared.Fault.{Fault}
use Rattle.fault.specs.declared.Kind.TheVariants.{BadRow, Dangling}
use Rattle.row_part.specs.declared.Cause.{Cause}
use Rattle.row_part.specs.Parts.{and_then}
use Rattle.row_part.proofs.Parts.{and_then_only}
use Rattle.fates.specs.declared.Fate.{Fate}
use Rattle.fates.specs.declared.FoldMap.{FoldMap}
use Rattle.fates.specs.Rows.{read_row}
use Rattle.fates.specs.Maps.{fate_of, fates_text, bad_row_at, dangling_at, row_count, row_at, row_taken, rows_read, row_start, scanned, loose, unless_loose, checked, read_map}
use Rattle.fates.specs.Laws.{Sound, BadRows}
use Rattle.fates.proofs.Scans.{made, refused}
use Rattle.fates.proofs.Texts.{back}

-- what is answered

same_err : (f g : Fault) → ◌≡◌ {A = Result (ℕ × List (Option Fate)) Fault} (Err f) (Err g) → f ≡ g
same_err f g h = cc

not_both : (r : Result (ℕ × List (Option Fate)) Fault) (q : ℕ × List (Option Fate)) (f : Fault) → r ≡ Ok q → r ≡ Err f → ⊥
not_both (Ok p) q f a b = let z : ◌≡◌ {A = ℕ} 0 1 = cc in omega arith
not_both (Err g) q f a b = let z : ◌≡◌ {A = ℕ} 0 1 = cc in omega arith

-- the first rows are read alike in texts that agree through them
rows_agree : (t u : List ℕ) (k : ℕ) → take (38 * k) t ≡ take (38 * k) u → rows_read t k ≡ rows_read u k
rows_agree t u zero e = refl
rows_agree t u (suc k) e =
    ap (λ r. and_then r λ q. row_taken k q (read_row q.0 (row_at t k))) (rows_agree t u k before)
    ∙ ap (λ x. and_then (rows_read u k) λ q. row_taken k q (read_row q.0 x)) row
  where
    next : 38 * suc k ≡ 38 * k + 38
    next = omega arith

    before : take (38 * k) t ≡ take (38 * k) u
    before =
        sym (take-take (38 * k) (38 * suc k) t (omega arith)) ∙ ap (take (38 * k)) e ∙ take-take (38 * k) (38 * suc k) u (omega arith)

    row : row_at t k ≡ row_at u k
    row =
        sym (drop-take (38 * k) 38 t)
        ∙ ap (drop (38 * k)) (ap (λ n. take n t) (sym next) ∙ e ∙ ap (λ n. take n u) next)
        ∙ drop-take (38 * k) 38 u

-- the first row that does not form
record Stops (t : List ℕ) (n : ℕ) (fault : Fault) : Type 0 where
  row : ℕ
  before : row < n
  here : rows_read t (suc row) ≡ Err fault
  place : fault ≡ bad_row_at (38 * row)

stops : (t : List ℕ) (n : ℕ) (fault : Fault) → rows_read t n ≡ Err fault → Stops t n fault
stops t zero fault h = absurd (let z : ◌≡◌ {A = ℕ} 0 1 = cc in omega arith)
stops t (suc n) fault h = go (rows_read t n) refl (stops t n)
  where
    last : (q : ℕ × List (Option Fate)) → rows_read t n ≡ Ok q → (r : Result (ℕ × Fate) Cause) → row_taken n q r ≡ Err fault → Stops t (suc n) fault
    last q e (Ok row) k = absurd (let z : ◌≡◌ {A = ℕ} 0 1 = cc in omega arith)
    last q e (Err c) k =
        record { row = n; before = omega arith; here = h; place = sym (same_err (bad_row_at (38 * n)) fault k) }

    go : (r : Result (ℕ × List (Option Fate)) Fault) → rows_read t n ≡ r → ((f : Fault) → rows_read t n ≡ Err f → Stops t n f) → Stops t (suc n) fault
    go (Ok q) e deeper =
        last q e (read_row q.0 (row_at t n)) (sym (ap (λ r. and_then r λ p. row_taken n p (read_row p.0 (row_at t n))) e) ∙ h)
    go (Err f) e deeper =
        let same = same_err f fault (sym (ap (λ r. and_then r λ p. row_taken n p (read_row p.0 (row_at t n))) e) ∙ h) in
        let s = deeper fault (e ∙ ap (λ x. Err x) same) in
        record { row = s.row; before = omega (arith, s.before); here = s.here; place = s.place }

-- a text that is accepted has rows that are read
rows_fine : (u : List ℕ) (m : FoldMap) (k : ℕ) (fault : Fault) → read_map u ≡ Ok m → k ≤ row_count u → rows_read u k ≡ Err fault → ⊥
rows_fine u m k fault h l e =
    let a = and_then_only (scanned u) _ m h in
    let b = and_then_only (rows_read u (row_count u)) _ a.0 a.1 in
    not_both (rows_read u (row_count u)) b.0 fault b.1 (refused u k (row_count u) fault e l)

-- the refusals are two kinds
kinds : (p q : ℕ) → bad_row_at p ≡ dangling_at q → ⊥
kinds p q h =
    let same : BadRow ≡ Dangling = ap (λ (f : Fault). f.kind) h in
    let z : ◌≡◌ {A = ℕ} 0 1 = cc in
    omega arith

same_refusal : (f g : Fault) → ◌≡◌ {A = Result FoldMap Fault} (Err f) (Err g) → f ≡ g
same_refusal f g h = cc

not_bad : (fates : List (Option Fate)) (o : Option ℕ) (p : ℕ) → unless_loose fates o ≡ Err (bad_row_at p) → ⊥
not_bad fates None p h = let z : ◌≡◌ {A = ℕ} 0 1 = cc in omega arith
not_bad fates (Some s) p h = kinds p (row_start fates s) (sym (same_refusal (dangling_at (row_start fates s)) (bad_row_at p) h))

-- rows that do not form are refused before any row that names no section
bad_scanned : (t : List ℕ) (p : ℕ) → read_map t ≡ Err (bad_row_at p) → scanned t ≡ Err (bad_row_at p)
bad_scanned t p h = go (scanned t) refl h
  where
    go : (r : Result FoldMap Fault) → scanned t ≡ r → and_then r (λ m. checked m.fates) ≡ Err (bad_row_at p) → scanned t ≡ Err (bad_row_at p)
    go (Ok m) e k = absurd (not_bad m.fates (find (λ s. loose m.fates (fate_of m.fates s)) (range_with_len 0 1024)) p k)
    go (Err f) e k = e ∙ k

rows_refused : (t : List ℕ) (fault : Fault) → scanned t ≡ Err fault → rows_read t (row_count t) ≡ Err fault
rows_refused t fault h = go (rows_read t (row_count t)) refl h
  where
    go : (r : Result (ℕ × List (Option Fate)) Fault) → rows_read t (row_count t) ≡ r → and_then r made ≡ Err fault → rows_read t (row_count t) ≡ Err fault
    go (Ok q) e k = absurd (let z : ◌≡◌ {A = ℕ} 0 1 = cc in omega arith)
    go (Err f) e k = let same : f ≡ fault = cc in e ∙ ap (λ x. Err x) same

pub bad_rows : BadRows
bad_rows t p h =
    let s = stops t (row_count t) (bad_row_at p) (rows_refused t (bad_row_at p) (bad_scanned t p h)) in
    let place : ◌≡◌ {A = ℕ} p (38 * s.row) = ap (λ (f : Fault). f.place) s.place in
    (s.row, place, record { there = omega (arith, s.before); none = λ m sound e. agrees s.row s.before s.here m sound e })
  where
    agrees : (k : ℕ) → k < row_count t → rows_read t (suc k) ≡ Err (bad_row_at p) → (m : FoldMap) → Sound m.fates
        → take (38 * suc k) t ≡ take (38 * suc k) (fates_text m.fates)
        → ⊥
    agrees k l here m sound e = go (fates_text m.fates) (back m sound) e (cases_lt k (row_count (fates_text m.fates)))
      where
        go : (u : List ℕ) → read_map u ≡ Ok m → take (38 * suc k) t ≡ take (38 * suc k) u → (k < row_count u) ⊎ (row_count u ≤ k) → ⊥
        go u ok same (inl later) = rows_fine u m (suc k) (bad_row_at p) ok (omega arith) (sym (rows_agree t u (suc k) same) ∙ here)
        go u ok same (inr short) =
            omega (arith, ap length same, length-take (38 * suc k) t, length-take (38 * suc k) u, l, short)
