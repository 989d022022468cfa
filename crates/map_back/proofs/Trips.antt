-- The text that is written of a pile's places is the text of the fates that they tell.
use Rattle.std.proofs.Common.{◌≡◌, ℕ, ◌<◌, ◌≤◌, Bool, true, false, cond, eqb, ◌⊎◌, List, Some, None, Ok, Err, Option, Result, sym, refl, ap, ◌∙◌, inl, inr, arith}
use Rattle.std.proofs.lemmas.Bool.{cases_lt, eqb-true, eqb-false, eq-eqb}
use Rattle.fault.specs.declared.Fault.{Fault}
use Rattle.model.specs.Graph.{Graph, count_of}
use Rattle.calls.specs.declared.Place.{Place}
use Rattle.calls.specs.declared.Place.TheVariants.{At, Absent, Swept as Nowhere}
use Rattle.steps.specs.Below.{table}
use Rattle.steps.proofs.Below.{table_at, table_length, table_past}
use Rattle.runs.specs.State.{State, place_of, after}
use Rattle.runs.specs.Laws.{Tells}
use Rattle.runs.proofs.Telling.{pile_tells}
use Rattle.row_writer.specs.declared.Outcome.TheVariants.{Own as Itself, Other as Another}
use Rattle.row_writer.specs.Writing.{moved_row}
use Rattle.foldmap.specs.Map.{told_of, row_of, map_text}
use Rattle.fates.specs.declared.Fate.{Fate}
use Rattle.fates.specs.declared.Fate.TheVariants.{Own, Folded}
use Rattle.fates.specs.Rows.{fate_row}
use Rattle.fates.specs.Maps.{fate_of, fates_text, read_map}
use Rattle.fates.specs.Laws.{Sound}
use Rattle.fates.proofs.Texts.{pieces_same, pieces_none, text_is, back}
use Rattle.map_back.specs.Trips.{fate_told, ReadsBack, MapsReadBack}

-- a row that is written is the row of the fate
same_row : (s : ℕ) (r : Result Place Fault) → row_of s (told_of s r) ≡ fate_row s (fate_told s r)
same_row s (Ok (At p)) = go (eqb p s) refl
  where
    go : (b : Bool) → eqb p s ≡ b → moved_row s (cond b Itself Another) p ≡ fate_row s (Some (cond b Own (Folded p)))
    go true e = ap (moved_row s Itself) (eqb-true p s e)
    go false e = refl
same_row s (Ok Nowhere) = refl
same_row s (Ok Absent) = refl
same_row s (Err f) = refl

-- a section whose fate is to be folded is placed elsewhere

record Elsewhere (s p : ℕ) (r : Result Place Fault) : Type 0 where
  at : r ≡ Ok (At p)
  apart : p ≡ s → ⊥

folded : (s p : ℕ) (r : Result Place Fault) → fate_told s r ≡ Some (Folded p) → Elsewhere s p r
folded s p (Ok (At q)) h = go (eqb q s) refl h
  where
    go : (b : Bool) → eqb q s ≡ b → ◌≡◌ {A = Option Fate} (Some (cond b Own (Folded q))) (Some (Folded p)) → Elsewhere s p (Ok (At q))
    go true e k = absurd (let z : ◌≡◌ {A = ℕ} 0 1 = cc in omega arith)
    go false e k =
        let same : q ≡ p = cc in
        record { at = ap (λ n. Ok (At n)) same; apart = λ (z : p ≡ s). eqb-false q s e (same ∙ z) }
folded s p (Ok Nowhere) h = absurd (let z : ◌≡◌ {A = ℕ} 0 1 = cc in omega arith)
folded s p (Ok Absent) h = absurd (let z : ◌≡◌ {A = ℕ} 0 1 = cc in omega arith)
folded s p (Err f) h = absurd (let z : ◌≡◌ {A = ℕ} 0 1 = cc in omega arith)

module _ (g : Graph) (st : State) (tells : Tells g st) where
  abbrev fate : ℕ → Option Fate
  fate s = fate_told s (place_of st s)

  abbrev fates : List (Option Fate)
  fates = table fate 1024

  small : count_of st.graph ≤ 1024
  small = tells.valid.few

  -- no fate past the count
  past : (s : ℕ) → count_of st.graph ≤ s → fate s ≡ None
  past s h = ap (fate_told s) (tells.beyond s (omega (arith, h, tells.count)))

  fate_at : (s : ℕ) → fate_of fates s ≡ fate s
  fate_at s = go (cases_lt s 1024)
    where
      go : (s < 1024) ⊎ (1024 ≤ s) → fate_of fates s ≡ fate s
      go (inl low) = table_at fate 1024 s None low
      go (inr high) = table_past fate 1024 s None high ∙ sym (past s (omega (arith, small)))

  elsewhere : (s p : ℕ) → fate_of fates s ≡ Some (Folded p) → Elsewhere s p (place_of st s)
  elsewhere s p e = folded s p (place_of st s) (sym (fate_at s) ∙ e)

  sound : Sound fates
  sound =
      record {
        long = table_length fate 1024;
        lower = λ s p e. let x = elsewhere s p e in let apart : p ≡ s → ⊥ = x.apart in omega (arith, tells.lower s p x.at);
        own = λ s p e.
            let x = elsewhere s p e in
            fate_at p
            ∙ ap (fate_told p) ((tells.stands p).0 (tells.placed s p x.at))
            ∙ ap (λ (b : Bool). Some (cond b Own (Folded p))) (eq-eqb p p refl);
      }

  same_text : map_text st ≡ fates_text fates
  same_text =
      pieces_same (λ s. row_of s (told_of s (place_of st s))) (λ s. fate_row s (fate_of fates s)) (count_of st.graph)
      (λ s l. same_row s (place_of st s) ∙ ap (fate_row s) (sym (fate_at s)))
      ∙ sym (pieces_none (λ s. fate_row s (fate_of fates s)) (count_of st.graph) 1024 small (λ s a b. ap (fate_row s) (fate_at s ∙ past s a)))
      ∙ sym (text_is fates)

  reads_back : ReadsBack st
  reads_back =
      record {
        map = record { fates = fates };
        read = ap read_map same_text ∙ back (record { fates = fates }) sound;
        tells = fate_at;
      }

pub maps_read_back : MapsReadBack
maps_read_back g v calls = reads_back g (after g calls) (pile_tells g v calls)
