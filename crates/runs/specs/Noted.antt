-- The drawn graph told at once from what was noted of the calls, so that a pile need not keep a graph.
use Rattle.std.specs.Prelude.{◌≡◌, ℕ, Bool, false, cond, ◌||◌, List, [], ◌∷◌, ◌++◌, map, ◌==◌}
use Rattle.std.specs.Option.{option_map}
use Rattle.model.specs.declared.Setting.TheVariants.{Pinned}
use Rattle.model.specs.declared.Target.{Target}
use Rattle.model.specs.Graph.{Body, Graph}
use Rattle.unfolding.specs.Groups.{aimed_at, rebuilt}
use Rattle.runs.specs.Drawn.{bound_target, bind, pin, root}

-- a section whose targets are put where f has them, and which is pinned if p says so
abbrev pub noted_body : (Target → Target) → Bool → Body → Body
noted_body f p b =
    record b { setting = cond p Pinned b.setting; relocations = map (aimed_at f) b.relocations }

-- the graph below with targets put where f has them, the sections pinned that p has, and more roots
abbrev pub noted : (Target → Target) → (ℕ → Bool) → List ℕ → Graph → Graph
noted f p more g =
    record { sections = rebuilt (λ s b. option_map (noted_body f (p s)) b) g; roots = g.roots ++ more }

-- what each call adds to the notes
pub record Notes : Type 0 where
  pub nothing : (g : Graph) → noted (λ x. x) (λ _. false) [] g ≡ g
  pub binds :
      (e s : ℕ) (f : Target → Target) (p : ℕ → Bool) (more : List ℕ) (g : Graph) →
      bind e s (noted f p more g) ≡ noted (λ x. bound_target e s (f x)) p more g
  pub pins :
      (s : ℕ) (f : Target → Target) (p : ℕ → Bool) (more : List ℕ) (g : Graph) →
      pin s (noted f p more g) ≡ noted f (λ t. (t == s) || p t) more g
  pub roots :
      (s : ℕ) (f : Target → Target) (p : ℕ → Bool) (more : List ℕ) (g : Graph) →
      root s (noted f p more g) ≡ noted f p (more ++ s ∷ []) g
  -- notes that say the same give the same graph
  pub same :
      (f h : Target → Target) (p q : ℕ → Bool) (more : List ℕ) (g : Graph) →
      ((x : Target) → f x ≡ h x) →
      ((s : ℕ) → p s ≡ q s) →
      noted f p more g ≡ noted h q more g
