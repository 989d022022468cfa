-- Which sections a chain of relocations from a root reaches, and the swept graph.
use Rattle.std.specs.Prelude.{◌≡◌, ℕ, zero, suc, Bool, false, cond, not, ◌&&◌, ◌||◌, List, [], ◌∷◌, Some, None, Option, ◌==◌, slice_index_or}
use Rattle.model.specs.declared.Target.{Target}
use Rattle.model.specs.declared.Target.TheVariants.{Section, Outside}
use Rattle.model.specs.declared.Relocation.{Relocation}
use Rattle.model.specs.Graph.{Body, Graph, section_of, count_of, root_of, relocation_of}
use Rattle.steps.specs.Below.{some_below, count_below, table}
use Rattle.unfolding.specs.Groups.{present, rebuilt}

-- section s is reached: it is a root, or a relocation of a reached section points at it
pub data Reached (g : Graph) : ℕ → Type 0 where
  root : (j : ℕ) {s : ℕ} → root_of g j ≡ Some s → Reached g s
  step : {s : ℕ} (j : ℕ) {t : ℕ} {r : Relocation} → Reached g s → relocation_of g s j ≡ Some r → r.target ≡ Section t → Reached g t

-- the same as a test

abbrev pub has : List ℕ → ℕ → Bool
has [] s = false
has (x ∷ xs) s = x == s || has xs s

abbrev pub points_at : Target → ℕ → Bool
points_at (Section t) s = t == s
points_at (Outside e) s = false

-- one of the relocations points at section s
abbrev pub leads : List Relocation → ℕ → Bool
leads [] s = false
leads (r ∷ rs) s = points_at r.target s || leads rs s

abbrev pub leads_in : Option Body → ℕ → Bool
leads_in None s = false
leads_in (Some b) s = leads b.relocations s

-- a relocation of section s points at section t
abbrev pub calls : Graph → ℕ → ℕ → Bool
calls g s t = leads_in (section_of g s) t

-- a mark in a list of marks, false past the end
abbrev pub marked : List Bool → ℕ → Bool
marked m s = slice_index_or m s false

-- a section is marked after one more round if it was marked, or a marked one points at it
abbrev pub marked_next : Graph → List Bool → ℕ → Bool
marked_next g m s = marked m s || some_below (λ t. marked m t && calls g t s) (count_of g)

-- the sections that chains of at most k relocations reach, a mark for each section
abbrev pub marks : Graph → ℕ → List Bool
marks g zero = table (has g.roots) (count_of g)
marks g (suc k) = let m = marks g k in table (marked_next g m) (count_of g)

unfoldable pub reached : Graph → ℕ → Bool
reached g s = marked (marks g (count_of g)) s

-- the swept graph: what no chain from a root reaches is absent
abbrev pub swept_section : Graph → ℕ → Option Body → Option Body
swept_section g s b = cond (reached g s) b None

abbrev pub swept : Graph → Graph
swept g = record g { sections = rebuilt (swept_section g) g }

-- how many sections the sweep makes absent
abbrev pub dropped : Graph → ℕ
dropped g = count_below (λ s. present g s && not (reached g s)) (count_of g)
