-- The roots, one section more.
use Rattle.std.proofs.Common.{◌≡◌, ℕ, ◌+◌, Bool, true, false, cond, List, [], ◌∷◌, ◌++◌, filter, sym, ap, ◌∙◌, arith}
use Rattle.std.specs.List.{range_with_len}
use Rattle.std.proofs.lemmas.List.{map-id, append-nil}
use Rattle.std.proofs.lemmas.List.FromFn.{filter_of_map_range_with_len_more}
use Rattle.rules.specs.Notes.{is_root}

kept_more : (p : ℕ → Bool) (i : ℕ) → filter p (range_with_len 0 (i + 1)) ≡ filter p (range_with_len 0 i) ++ cond (p i) (i ∷ []) []
kept_more p i =
    ap (filter p) (sym (map-id (range_with_len 0 (i + 1))))
    ∙ (filter_of_map_range_with_len_more p (λ (x : ℕ). x) 0 i i (omega arith)
    ∙ ap (λ (xs : List ℕ). filter p xs ++ cond (p i) (i ∷ []) []) (map-id (range_with_len 0 i)))

pub root_more : (b : List ℕ) (i : ℕ) (found : List ℕ) → found ≡ filter (is_root b) (range_with_len 0 i) → is_root b i ≡ true
    → found ++ i ∷ [] ≡ filter (is_root b) (range_with_len 0 (i + 1))
root_more b i found w e =
    ap (λ (xs : List ℕ). xs ++ i ∷ []) w
    ∙ sym (kept_more (is_root b) i ∙ ap (λ (t : Bool). filter (is_root b) (range_with_len 0 i) ++ cond t (i ∷ []) []) e)

pub root_same : (b : List ℕ) (i : ℕ) (found : List ℕ) → found ≡ filter (is_root b) (range_with_len 0 i) → is_root b i ≡ false
    → found ≡ filter (is_root b) (range_with_len 0 (i + 1))
root_same b i found w e =
    w
    ∙ sym (kept_more (is_root b) i
    ∙ (ap (λ (t : Bool). filter (is_root b) (range_with_len 0 i) ++ cond t (i ∷ []) []) e ∙ append-nil (filter (is_root b) (range_with_len 0 i))))
