-- The bytes of a section of the pile: those below, or, where it is gone, none.
use Rattle.std.proofs.Common.{◌≡◌, ℕ, Bool, true, false, cond, List, [], ◌∷◌, length, Some, None, Option, sym, refl, ap, ◌∙◌, arith}
use Rattle.std.specs.Option.{option_map}
use Rattle.model.specs.declared.Target.{Target}
use Rattle.model.specs.Graph.{Body, Graph, section_of, record_of}
use Rattle.graph.specs.Bytes.{bytes_in, bytes_of, digest, told_size}
use Rattle.graph.proofs.Told.{size_length}
use Rattle.unfolding.specs.Groups.{aimed, moved}
use Rattle.calls.specs.declared.Slot.{Slot}
use Rattle.calls.specs.declared.Slot.TheVariants.{Untouched, Folded, Swept}
use Rattle.runs.specs.Drawn.{as_pinned}
use Rattle.runs.specs.State.{slot_of, untouched}
use Rattle.runs.specs.Seen.{found_number, left_of}
use Rattle.ledger.specs.declared.Ledger.{Ledger}
use Rattle.ledger.specs.Told.{bound_by, pinned, told}
use Rattle.ledger.proofs.Asking.{told_at}

bytes_told : (g : Graph) (t : Ledger) (s : ℕ) → bytes_of (told g t).graph s ≡ cond (untouched (slot_of t.slots.list s)) (bytes_of g s) []
bytes_told g t s =
    ap bytes_in (told_at g t s) ∙
    go (moved (found_number t.slots.list)) (bound_by t) (slot_of t.slots.list s) (pinned t s) (section_of g s)
  where
    go :
        (f h : Target → Target) (x : Slot) (c : Bool) (o : Option Body) →
        bytes_in (left_of x (option_map (aimed f) (option_map (aimed h) (cond c (option_map as_pinned o) o)))) ≡
        cond (untouched x) (bytes_in o) []
    go f h Untouched true None = refl
    go f h Untouched false None = refl
    go f h Untouched true (Some b) = refl
    go f h Untouched false (Some b) = refl
    go f h (Folded u) c o = refl
    go f h Swept c o = refl

sized : (g : Graph) (s : ℕ) → told_size (record_of g s) ≡ length (bytes_of g s)
sized g s = size_length (section_of g s)

nothing : (xs : List ℕ) → length xs ≡ 0 → xs ≡ []
nothing [] e = refl
nothing (x ∷ xs) e = absurd (omega arith)

-- no bytes are left
gone : (g : Graph) (t : Ledger) (s : ℕ) → told_size (record_of (told g t).graph s) ≡ 0 → bytes_of (told g t).graph s ≡ []
gone g t s e = nothing (bytes_of (told g t).graph s) (sym (sized (told g t).graph s) ∙ e)

-- some are left, so all are
left : (g : Graph) (t : Ledger) (s : ℕ) → (told_size (record_of (told g t).graph s) ≡ 0 → ⊥) → bytes_of (told g t).graph s ≡ bytes_of g s
left g t s some = go (untouched (slot_of t.slots.list s)) (bytes_told g t s)
  where
    go : (x : Bool) → bytes_of (told g t).graph s ≡ cond x (bytes_of g s) [] → bytes_of (told g t).graph s ≡ bytes_of g s
    go true e = e
    go false e = absurd (some (sized (told g t).graph s ∙ ap (λ (xs : List ℕ). length xs) e))

pub digest_gone : (g : Graph) (t : Ledger) (s : ℕ) → told_size (record_of (told g t).graph s) ≡ 0 → digest (bytes_of (told g t).graph s) ≡ digest []
digest_gone g t s e = ap digest (gone g t s e)

pub digest_left : (g : Graph) (t : Ledger) (s : ℕ) → (told_size (record_of (told g t).graph s) ≡ 0 → ⊥) → digest (bytes_of (told g t).graph s) ≡ digest (bytes_of g s)
digest_left g t s some = ap digest (left g t s some)

pub differ_in_size : (g : Graph) (a b : ℕ) → (told_size (record_of g a) ≡ told_size (record_of g b) → ⊥) → bytes_of g a ≡ bytes_of g b → ⊥
differ_in_size g a b d e = d (sized g a ∙ (ap (λ (xs : List ℕ). length xs) e ∙ sym (sized g b)))

pub both_gone : (g : Graph) (t : Ledger) (a b : ℕ) → told_size (record_of (told g t).graph a) ≡ 0 → told_size (record_of (told g t).graph b) ≡ 0
    → bytes_of (told g t).graph a ≡ bytes_of (told g t).graph b
both_gone g t a b e f = gone g t a e ∙ sym (gone g t b f)

pub both_left : (g : Graph) (t : Ledger) (a b : ℕ)
    → (told_size (record_of (told g t).graph a) ≡ 0 → ⊥) → (told_size (record_of (told g t).graph b) ≡ 0 → ⊥)
    → bytes_of g a ≡ bytes_of g b → bytes_of (told g t).graph a ≡ bytes_of (told g t).graph b
both_left g t a b d e w = left g t a d ∙ (w ∙ sym (left g t b e))

pub both_below : (g : Graph) (t : Ledger) (a b : ℕ)
    → (told_size (record_of (told g t).graph a) ≡ 0 → ⊥) → (told_size (record_of (told g t).graph b) ≡ 0 → ⊥)
    → bytes_of (told g t).graph a ≡ bytes_of (told g t).graph b → bytes_of g a ≡ bytes_of g b
both_below g t a b d e w = sym (left g t a d) ∙ (w ∙ left g t b e)
