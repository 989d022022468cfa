-- Numbered sections, put at their places among absent ones.
use Rattle.std.proofs.Common.{◌≡◌, ℕ, zero, suc, ◌+◌, ◌<◌, ◌≤◌, Bool, true, false, cond, eqb, ◌⊎◌, List, [], ◌∷◌, length, get_or, Some, None, Option, sym, refl, ap, ◌∙◌, subst, inl, inr, arith}
use Rattle.std.specs.List.{AllByRecursion}
use Rattle.std.proofs.lemmas.Bool.{eq-eqb, ne_eqb, cases_eq, cond-true, cond-false}
use Rattle.model.specs.Graph.{Body}
use Rattle.row.specs.Entry.{Entry}
use Rattle.layout.specs.Layout.{with_section, with_sections, present_count}
use Rattle.layout.specs.Order.{placed}

-- the numbers ascend from `low`, and are below `high`
abbrev pub Ascending : ℕ → ℕ → List (ℕ × Body) → Type 0
Ascending low high [] = Unit {0}
Ascending low high (x ∷ xs) = (low ≤ x.0) × (x.0 < high) × Ascending (suc x.0) high xs

pub ascending_none : (n : ℕ) (xs : List (ℕ × Body)) → Ascending n n xs → xs ≡ []
ascending_none n [] h = refl
ascending_none n (x ∷ xs) h = absurd (omega (arith, h.0, h.1))

-- the rows of numbered sections, and then further rows
abbrev pub with_pairs : List (ℕ × Body) → List Entry → List Entry
with_pairs [] rest = rest
with_pairs (x ∷ xs) rest = with_section x.0 x.1 (with_pairs xs rest)

pub length_placed : (s n : ℕ) (xs : List (ℕ × Body)) → length (placed s n xs) ≡ n
length_placed s zero xs = refl
length_placed s (suc n) [] = ap suc (length_placed (suc s) n [])
length_placed s (suc n) (x ∷ xs) =
    go (eqb x.0 s) (length_placed (suc s) n xs) (length_placed (suc s) n (x ∷ xs))
  where
    go : (b : Bool) → length (placed (suc s) n xs) ≡ n → length (placed (suc s) n (x ∷ xs)) ≡ n
        → length (cond b (Some x.1 ∷ placed (suc s) n xs) (None ∷ placed (suc s) n (x ∷ xs))) ≡ suc n
    go true here later = ap suc here
    go false here later = ap suc later

-- where the first number is, and where it is not yet
placed_here : (s n : ℕ) (x : ℕ × Body) (xs : List (ℕ × Body)) → x.0 ≡ s → placed s (suc n) (x ∷ xs) ≡ Some x.1 ∷ placed (suc s) n xs
placed_here s n x xs e = cond-true _ _ _ (eq-eqb _ _ e)

placed_later : (s n : ℕ) (x : ℕ × Body) (xs : List (ℕ × Body)) → (x.0 ≡ s → ⊥) → placed s (suc n) (x ∷ xs) ≡ None ∷ placed (suc s) n (x ∷ xs)
placed_later s n x xs e = cond-false _ _ _ (ne_eqb _ _ e)

raised : (s high : ℕ) (xs : List (ℕ × Body)) (x : ℕ × Body) → Ascending s high (x ∷ xs) → (x.0 ≡ s → ⊥) → Ascending (suc s) high (x ∷ xs)
raised s high xs x h e = (omega (arith, h.0), h.1, h.2)

-- the rows of the sections that are placed are the rows of the numbered ones, and they are as many
abbrev SameRows : ℕ → List (Option Body) → List (ℕ × Body) → List Entry → Type 0
SameRows s ys xs rest = (with_sections s ys rest ≡ with_pairs xs rest) × (present_count ys ≡ length xs)

pub placed_rows : (s n : ℕ) (xs : List (ℕ × Body)) (rest : List Entry) (high : ℕ) → high ≡ s + n → Ascending s high xs
    → SameRows s (placed s n xs) xs rest
placed_rows s zero [] rest high e h = (refl, refl)
placed_rows s zero (x ∷ xs) rest high e h = absurd (omega (arith, h.0, h.1))
placed_rows s (suc n) [] rest high e h = placed_rows (suc s) n [] rest high (omega arith) tt
placed_rows s (suc n) (x ∷ xs) rest high e h =
    go (cases_eq x.0 s) (λ a. placed_rows (suc s) n xs rest high (omega arith) a)
    (λ a. placed_rows (suc s) n (x ∷ xs) rest high (omega arith) a)
  where
    go : (x.0 ≡ s) ⊎ (x.0 ≡ s → ⊥) → (Ascending (suc s) high xs → SameRows (suc s) (placed (suc s) n xs) xs rest)
        → (Ascending (suc s) high (x ∷ xs) → SameRows (suc s) (placed (suc s) n (x ∷ xs)) (x ∷ xs) rest)
        → SameRows s (placed s (suc n) (x ∷ xs)) (x ∷ xs) rest
    go (inl same) here later =
        let deeper = here (subst (λ (k : ℕ). Ascending (suc k) high xs) same h.2) in
        subst (λ (ys : List (Option Body)). SameRows s ys (x ∷ xs) rest) (sym (placed_here s n x xs same))
        (ap (λ (more : List Entry). with_section s x.1 more) deeper.0 ∙ ap (λ (k : ℕ). with_section k x.1 (with_pairs xs rest)) (sym same), ap suc deeper.1)
    go (inr apart) here later =
        subst (λ (ys : List (Option Body)). SameRows s ys (x ∷ xs) rest) (sym (placed_later s n x xs apart))
        (later (raised s high xs x h apart))

-- what holds of every numbered section holds of every section that is placed
pub placed_all : (P : Body → Type 0) (s n : ℕ) (xs : List (ℕ × Body)) → AllByRecursion (λ x. P x.1) xs → (t : ℕ) (b : Body) → get_or (placed s n xs) t None ≡ Some b → P b
placed_all P s zero xs h t b e = absurd (let z : ◌≡◌ {A = ℕ} 0 1 = cc in omega arith)
placed_all P s (suc n) [] h zero b e = absurd (let z : ◌≡◌ {A = ℕ} 0 1 = cc in omega arith)
placed_all P s (suc n) [] h (suc t) b e = placed_all P (suc s) n [] h t b e
placed_all P s (suc n) (x ∷ xs) h t b e =
    go (eqb x.0 s) t e (λ u d. placed_all P (suc s) n xs h.1 u b d) (λ u d. placed_all P (suc s) n (x ∷ xs) h u b d)
  where
    go : (c : Bool) (u : ℕ) → get_or (cond c (Some x.1 ∷ placed (suc s) n xs) (None ∷ placed (suc s) n (x ∷ xs))) u None ≡ Some b
        → ((v : ℕ) → get_or (placed (suc s) n xs) v None ≡ Some b → P b)
        → ((v : ℕ) → get_or (placed (suc s) n (x ∷ xs)) v None ≡ Some b → P b) → P b
    go true zero d here later = let same : x.1 ≡ b = cc in subst P same h.0
    go true (suc u) d here later = here u d
    go false zero d here later = absurd (let z : ◌≡◌ {A = ℕ} 0 1 = cc in omega arith)
    go false (suc u) d here later = later u d
