-- The place question, by where the slots lead.
use Rattle.std.proofs.Common.{◌≡◌, ℕ, ◌<◌, ◌≤◌, Bool, true, false, cond, ltb, Ok, Err, Result, refl, ap, ◌∙◌, arith}
use Rattle.std.proofs.lemmas.Bool.{lt-ltb, le-ltb}
use Rattle.fault.specs.declared.Fault.{Fault}
use Rattle.model.specs.Graph.{Present, count_of}
use Rattle.unfolding.specs.Groups.{present}
use Rattle.unfolding.proofs.Marks.{present_bound}
use Rattle.calls.specs.declared.Place.{Place}
use Rattle.calls.specs.declared.Place.TheVariants.{At, Absent, Swept as Nowhere}
use Rattle.runs.specs.State.{State, no_section, found_at, place_of}
use Rattle.runs.specs.Promise.{Placed}

-- a section that is present below
pub place_present : (st : State) (s : ℕ) → Present st.drawn s → place_of st s ≡ Ok (found_at st.slots s)
place_present st s p =
    rw (lt-ltb s (count_of st.drawn) (present_bound st.drawn s p), p)

-- an absent one, and a number that is not below the count

pub place_absent : (st : State) (s : ℕ) → s < count_of st.drawn → present st.drawn s ≡ false → place_of st s ≡ Ok Absent
place_absent st s h e = rw (lt-ltb s (count_of st.drawn) h, e)

pub place_beyond : (st : State) (s : ℕ) → count_of st.drawn ≤ s → place_of st s ≡ Err (no_section s)
place_beyond st s h = rw (le-ltb s (count_of st.drawn) h)

-- and back: a section with another answer than absent is present below
pub record Found (st : State) (s : ℕ) (x : Place) : Type 0 where
  pub here : Present st.drawn s
  pub at : found_at st.slots s ≡ x

found : (st : State) (s : ℕ) (x : Place) → (x ≡ Absent → ⊥) → place_of st s ≡ Ok x → Found st s x
found st s x apart e = go (ltb s (count_of st.drawn)) (present st.drawn s) refl e
  where
    go :
        (l p : Bool) →
        present st.drawn s ≡ p →
        ◌≡◌ {A = Result Place Fault} (cond l (Ok (cond p (found_at st.slots s) Absent)) (Err (no_section s))) (Ok x) →
        Found st s x
    go false p h f =
        let z : ◌≡◌ {A = ℕ} 0 1 = cc in
        absurd (omega arith)
    go true false h f =
        let z : x ≡ Absent = cc in
        absurd (apart z)
    go true true h f = record { here = h; at = cc }

pub placed_found : (st : State) (s p : ℕ) → Placed st s p → Found st s (At p)
placed_found st s p e =
    found st s (At p)
    (λ h.
    let z : ◌≡◌ {A = ℕ} 0 1 = cc in
    omega arith)
    e

pub nowhere_found : (st : State) (s : ℕ) → place_of st s ≡ Ok Nowhere → Found st s Nowhere
nowhere_found st s e =
    found st s Nowhere
    (λ h.
    let z : ◌≡◌ {A = ℕ} 0 1 = cc in
    omega arith)
    e

pub found_placed : (st : State) (s p : ℕ) → Present st.drawn s → found_at st.slots s ≡ At p → Placed st s p
found_placed st s p h e = place_present st s h ∙ ap (λ (x : Place). Ok x) e

pub found_nowhere : (st : State) (s : ℕ) → Present st.drawn s → found_at st.slots s ≡ Nowhere → place_of st s ≡ Ok Nowhere
found_nowhere st s h e = place_present st s h ∙ ap (λ (x : Place). Ok x) e
