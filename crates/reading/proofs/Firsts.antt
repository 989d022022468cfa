-- The first number that passes.
use Rattle.std.proofs.Common.{◌≡◌, ℕ, zero, suc, ◌+◌, ◌<◌, ◌≤◌, Bool, true, false, not, ◌||◌, eqb, leb, List, [], ◌∷◌, length, Some, None, Option, sym, refl, ◌∙◌, arith}
use Rattle.std.proofs.lemmas.Bool.{eqb-true, ne_eqb, leb-true, and_parts, or_from}
use Rattle.checklist.specs.Checks.{first_fault, each, all_hold, where_holds}
use Rattle.checklist.proofs.Checks.{accepts, hold_each}
use Rattle.elf.specs.Layout.{place, section, sections}
use Rattle.rules.specs.Rules.{earlier, first_where, of_kind, the_only, extent_rule, check, cut_at}

pub first_where_is : (f : ℕ → Bool) (n i : ℕ) → first_where f n ≡ Some i → (i < n) × (f i ≡ true)
first_where_is f zero i e = let z : ◌≡◌ {A = ℕ} 0 1 = cc in absurd (omega arith)
first_where_is f (suc n) i e = go (first_where f n) refl (f n) refl e (first_where_is f n i)
  where
    go : (o : Option ℕ) → first_where f n ≡ o → (t : Bool) → f n ≡ t → earlier o t n ≡ Some i
        → (first_where f n ≡ Some i → (i < n) × (f i ≡ true)) → (i < suc n) × (f i ≡ true)
    go None q true h e' ih = let same : n ≡ i = cc in (omega arith, rw same at h)
    go None q false h e' ih = let z : ◌≡◌ {A = ℕ} 0 1 = cc in absurd (omega arith)
    go (Some j) q t h e' ih = let r = ih (q ∙ e') in (omega (arith, r.0), r.1)

-- the section of a type is one, and what the file holds of it ends within
pub only_is : (k : ℕ) (b : List ℕ) (t : ℕ) → Some t ≡ the_only k b → (t < sections b) × ((section b t).kind ≡ k)
only_is k b t e =
    let r = first_where_is (of_kind k b) (sections b) t (sym e)
    in (r.0, eqb-true (section b t).kind k r.1)

pub extent_is : (b : List ℕ) (i : ℕ) → i < sections b → ((section b i).kind ≡ 0 → ⊥) → ((section b i).kind ≡ 8 → ⊥)
    → first_fault (each (extent_rule b) (sections b)) ≡ None → (section b i).offset + (section b i).size ≤ length b
extent_is b i h z e f =
    go (eqb (section b i).kind 0 || eqb (section b i).kind 8)
    (or_from (eqb (section b i).kind 0) (eqb (section b i).kind 8) (ne_eqb (section b i).kind 0 z) (ne_eqb (section b i).kind 8 e))
    (hold_each (extent_rule b) (sections b) i h (accepts (each (extent_rule b) (sections b)) f))
  where
    go : (t : Bool) → t ≡ false → all_hold (where_holds (not t) (check (leb ((section b i).offset + (section b i).size) (length b)) (cut_at (place b i + 24)) ∷ [])) ≡ true
        → (section b i).offset + (section b i).size ≤ length b
    go true q a = let y : ◌≡◌ {A = ℕ} 0 1 = cc in absurd (omega arith)
    go false q a = leb-true ((section b i).offset + (section b i).size) (length b) (and_parts (leb ((section b i).offset + (section b i).size) (length b)) true a).0
