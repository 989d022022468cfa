-- Two lists that are tested place by place, and what the questions tell of a section's relocations.
use Rattle.std.proofs.Common.{◌≡◌, ℕ, ◌+◌, Bool, true, false, ◌&&◌, List, [], drop, Some, None, Option, sym, refl, ap, ◌∙◌, arith}
use Rattle.std.specs.List.{slice_get}
use Rattle.std.proofs.lemmas.List.{drop_all}
use Rattle.model.specs.declared.Relocation.{Relocation}
use Rattle.model.specs.Graph.{Body, told_relocation}
use Rattle.graph.proofs.Told.{relocation_nth}
use Rattle.graph.proofs.Places.{drop_nth, nth_none}
use Rattle.unfolding.specs.Depth.{same_list}
use Rattle.graph.specs.Bytes.{relocations_in}

-- two answers pass a test, or both are none
abbrev pub both_told : {X : Type 0} → (X → X → Bool) → Option X → Option X → Bool
both_told test None None = true
both_told test None (Some y) = false
both_told test (Some x) None = false
both_told test (Some x) (Some y) = test x y

module _ {X : Type 0} (test : X → X → Bool) where
  -- what stands at place j decides what is left of the two lists
  same_left :
      (xs ys : List X) (j : ℕ) →
      same_list test (drop j xs) (drop j ys) ≡
      (both_told test (slice_get xs j) (slice_get ys j) && same_list test (drop (j + 1) xs) (drop (j + 1) ys))
  same_left xs ys j = go (slice_get xs j) refl (slice_get ys j) refl
    where
      gone : (zs : List X) → slice_get zs j ≡ None → drop j zs ≡ []
      gone zs e = drop_all j zs (nth_none zs j e)

      gone_next : (zs : List X) → slice_get zs j ≡ None → drop (j + 1) zs ≡ []
      gone_next zs e = drop_all (j + 1) zs (let h = nth_none zs j e in omega arith)

      go :
          (a : Option X) →
          slice_get xs j ≡ a →
          (b : Option X) →
          slice_get ys j ≡ b →
          same_list test (drop j xs) (drop j ys) ≡ (both_told test a b && same_list test (drop (j + 1) xs) (drop (j + 1) ys))
      go None e None f = rw (gone xs e, gone ys f, gone_next xs e, gone_next ys f)
      go None e (Some y) f = rw (gone xs e, drop_nth ys j y f)
      go (Some x) e None f = rw (drop_nth xs j x e, gone ys f)
      go (Some x) e (Some y) f = rw (drop_nth xs j x e, drop_nth ys j y f)

-- the relocations of two sections, tested one after the other
module _ (test : Relocation → Relocation → Bool) (o p : Option Body) where
  left :
      (j : ℕ) →
      same_list test (drop j (relocations_in o)) (drop j (relocations_in p)) ≡
      (both_told test (told_relocation o j) (told_relocation p j) &&
      same_list test (drop (j + 1) (relocations_in o)) (drop (j + 1) (relocations_in p)))
  left j = rw (relocation_nth o j, relocation_nth p j) (same_left test (relocations_in o) (relocations_in p) j)

  pub told_both :
      (j : ℕ) (r q : Relocation) →
      told_relocation o j ≡ Some r →
      told_relocation p j ≡ Some q →
      both_told test (told_relocation o j) (told_relocation p j) ≡ test r q
  told_both j r q e f = rw (e, f)

  pub test_next :
      (j : ℕ) →
      both_told test (told_relocation o j) (told_relocation p j) ≡ true →
      same_list test (drop j (relocations_in o)) (drop j (relocations_in p)) ≡ same_list test (relocations_in o) (relocations_in p) →
      same_list test (drop (j + 1) (relocations_in o)) (drop (j + 1) (relocations_in p)) ≡ same_list test (relocations_in o) (relocations_in p)
  test_next j e h =
      let step : same_list test (drop j (relocations_in o)) (drop j (relocations_in p)) ≡
      same_list test (drop (j + 1) (relocations_in o)) (drop (j + 1) (relocations_in p)) =
      left j ∙ ap (λ (b : Bool). b && same_list test (drop (j + 1) (relocations_in o)) (drop (j + 1) (relocations_in p))) e in
      sym step ∙ h

  pub test_fails :
      (j : ℕ) →
      both_told test (told_relocation o j) (told_relocation p j) ≡ false →
      same_list test (drop j (relocations_in o)) (drop j (relocations_in p)) ≡ same_list test (relocations_in o) (relocations_in p) →
      false ≡ same_list test (relocations_in o) (relocations_in p)
  test_fails j e h =
      let step : same_list test (drop j (relocations_in o)) (drop j (relocations_in p)) ≡ false =
      left j ∙ ap (λ (b : Bool). b && same_list test (drop (j + 1) (relocations_in o)) (drop (j + 1) (relocations_in p))) e in
      sym step ∙ h
