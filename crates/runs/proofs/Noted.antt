-- The drawn graph told at once from what was noted of the calls.
use Rattle.std.proofs.Common.{◌≡◌, ℕ, Bool, true, false, cond, ◌||◌, eqb, List, [], ◌∷◌, ◌++◌, Some, None, Option, sym, refl, ap, ◌∙◌}
use Rattle.std.specs.Option.{option_map}
use Rattle.std.proofs.lemmas.List.{ext_get_or, append-nil, append_assoc}
use Rattle.std.proofs.lemmas.Simd.{map-map}
use Rattle.model.specs.declared.Setting.TheVariants.{Pinned}
use Rattle.model.specs.declared.Target.{Target}
use Rattle.model.specs.declared.Relocation.{Relocation}
use Rattle.model.specs.Graph.{Body, Graph, section_of, count_of}
use Rattle.unfolding.specs.Groups.{aimed_at, aimed}
use Rattle.folding.proofs.Rebuilt.{rebuilt_at, rebuilt_length, rebuilt_same}
use Rattle.folding.proofs.Aimed.{relocations_same, relocations_agree}
use Rattle.runs.specs.Drawn.{bound_target, bind, as_pinned, pin, root}
use Rattle.runs.specs.Noted.{noted_body, noted, Notes}
use Rattle.runs.proofs.Draws.{bind_at, bind_count, pin_at, pin_count}

pub noted_at : (f : Target → Target) (p : ℕ → Bool) (more : List ℕ) (g : Graph) (s : ℕ) → section_of (noted f p more g) s ≡ option_map (noted_body f (p s)) (section_of g s)
noted_at f p more g s = rebuilt_at (λ s b. option_map (noted_body f (p s)) b) g (λ _. refl) s

pub noted_count : (f : Target → Target) (p : ℕ → Bool) (more : List ℕ) (g : Graph) → count_of (noted f p more g) ≡ count_of g
noted_count f p more g = rebuilt_length (λ s b. option_map (noted_body f (p s)) b) g

-- two graphs with the same sections and roots
pub same_graph : (g h : Graph) → count_of g ≡ count_of h → ((s : ℕ) → section_of g s ≡ section_of h s) → g.roots ≡ h.roots → g ≡ h
same_graph g h count each roots =
    let sections = ext_get_or None g.sections h.sections count (λ s _. each s) in
    λ i. record { sections = sections i; roots = roots i }

abbrev with_list : Body → Bool → List Relocation → Body
with_list b p rs =
    record b { setting = cond p Pinned b.setting; relocations = rs }

nothing : (g : Graph) → noted (λ x. x) (λ _. false) [] g ≡ g
nothing g =
    let sections =
    rebuilt_same (λ s b. option_map (noted_body (λ x. x) false) b) g (λ _. refl) (λ s. plain (section_of g s)) in
    let roots = append-nil g.roots in
    λ i. record { sections = sections i; roots = roots i }
  where
    plain : (o : Option Body) → option_map (noted_body (λ x. x) false) o ≡ o
    plain None = refl
    plain (Some b) = ap (λ (rs : List Relocation). Some (with_list b false rs)) (relocations_same (λ x. x) (λ _. refl) b.relocations)

module _ (f : Target → Target) (p : ℕ → Bool) (more : List ℕ) (g : Graph) where
  binds : (e s : ℕ) → bind e s (noted f p more g) ≡ noted (λ x. bound_target e s (f x)) p more g
  binds e s =
      same_graph (bind e s (noted f p more g)) (noted (λ x. bound_target e s (f x)) p more g)
      (bind_count e s (noted f p more g) ∙ (noted_count f p more g ∙ sym (noted_count (λ x. bound_target e s (f x)) p more g)))
      (λ t.
      bind_at e s (noted f p more g) t ∙
      (ap (option_map (aimed (bound_target e s))) (noted_at f p more g t) ∙
      (twice (p t) (section_of g t) ∙ sym (noted_at (λ x. bound_target e s (f x)) p more g t))))
      refl
    where
      twice : (c : Bool) (o : Option Body) → option_map (aimed (bound_target e s)) (option_map (noted_body f c) o) ≡ option_map (noted_body (λ x. bound_target e s (f x)) c) o
      twice c None = refl
      twice c (Some b) =
          ap (λ (rs : List Relocation). Some (with_list b c rs)) (map-map (aimed_at (bound_target e s)) (aimed_at f) b.relocations)

  pins : (s : ℕ) → pin s (noted f p more g) ≡ noted f (λ t. eqb t s || p t) more g
  pins s =
      same_graph (pin s (noted f p more g)) (noted f (λ t. eqb t s || p t) more g)
      (pin_count s (noted f p more g) ∙ (noted_count f p more g ∙ sym (noted_count f (λ t. eqb t s || p t) more g)))
      (λ t.
      pin_at s (noted f p more g) t ∙
      (ap (λ (o : Option Body). cond (eqb t s) (option_map as_pinned o) o) (noted_at f p more g t) ∙
      (twice (eqb t s) (p t) (section_of g t) ∙ sym (noted_at f (λ t. eqb t s || p t) more g t))))
      refl
    where
      twice : (c d : Bool) (o : Option Body) → cond c (option_map as_pinned (option_map (noted_body f d) o)) (option_map (noted_body f d) o) ≡ option_map (noted_body f (c || d)) o
      twice true d None = refl
      twice true d (Some b) = refl
      twice false d o = refl

  roots : (s : ℕ) → root s (noted f p more g) ≡ noted f p (more ++ s ∷ []) g
  roots s =
      let rs = append_assoc g.roots more (s ∷ []) in
      λ i. record (noted f p more g) { roots = rs i }

  same : (h : Target → Target) (q : ℕ → Bool) → ((x : Target) → f x ≡ h x) → ((s : ℕ) → p s ≡ q s) → noted f p more g ≡ noted h q more g
  same h q fh pq =
      same_graph (noted f p more g) (noted h q more g)
      (noted_count f p more g ∙ sym (noted_count h q more g))
      (λ s. noted_at f p more g s ∙ (each s (section_of g s) ∙ sym (noted_at h q more g s)))
      refl
    where
      each : (s : ℕ) (o : Option Body) → option_map (noted_body f (p s)) o ≡ option_map (noted_body h (q s)) o
      each s None = refl
      each s (Some b) =
          let here = pq s in
          let rs = relocations_agree f h b.relocations (λ _ r _. fh r.target) in
          λ i. Some (with_list b (here i) (rs i))

pub notes : Notes
notes =
    record {
      nothing = nothing;
      binds = λ e s f p more g. binds f p more g e s;
      pins = λ s f p more g. pins f p more g s;
      roots = λ s f p more g. roots f p more g s;
      same = λ f h p q more g fh pq. same f p more g h q fh pq;
    }
