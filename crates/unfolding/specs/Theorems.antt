-- What is proved of unfoldings, depth by depth.
use Rattle.std.specs.Prelude.{◌≡◌, ℕ, suc, ◌≤◌, false, Decides}
use Rattle.model.specs.Graph.{Graph, Present, count_of}
use Rattle.unfolding.specs.Groups.{present, foldable, FoldAble}
use Rattle.unfolding.specs.Sections.{Agree, Alike, Stable, rounds, rep}

-- what is counted as present is what the model calls so
abbrev pub PresenceDecided : Type 0
PresenceDecided = (g : Graph) (s : ℕ) → Decides (present g s) (Present g s)

-- depth 0 tells a pinned section from every other, and no two foldable ones apart
pub record MarksTell : Type 0 where
  pub pins : (g : Graph) (s : ℕ) (h : Graph) (t : ℕ) → Present g s → foldable g s ≡ false → Agree 0 g s h t → s ≡ t
  pub settings : (g : Graph) (s : ℕ) (h : Graph) (t : ℕ) → Agree 0 g s h t → foldable g s ≡ foldable h t
  pub presence : (g : Graph) (s : ℕ) (h : Graph) (t : ℕ) → Agree 0 g s h t → Present g s → Present h t
  pub joins : (g : Graph) (s : ℕ) (h : Graph) (t : ℕ) → FoldAble g s → FoldAble h t → Agree 0 g s h t

-- agreement at depth k + 1 gives agreement at depth k
abbrev pub Narrows : Type 0
Narrows = (k : ℕ) (g : Graph) (s : ℕ) (h : Graph) (t : ℕ) → Agree (suc k) g s h t → Agree k g s h t

-- when depths k and k + 1 have the same groups, so have all later depths
abbrev pub GroupsLast : Type 0
GroupsLast =
    (g : Graph) (k : ℕ) →
    Stable g k →
    (m : ℕ) →
    k ≤ m →
    Stable g m × ((s t : ℕ) → FoldAble g s → FoldAble g t → Agree k g s g t → Agree m g s g t)

-- such a depth comes, not above the count of sections
abbrev pub GroupsSettle : Type 0
GroupsSettle = (g : Graph) → (k : ℕ) × (k ≤ count_of g) × Stable g k

-- and agreement there is agreement at every depth, of any two sections
abbrev pub DepthDecides : Type 0
DepthDecides = (g : Graph) (k : ℕ) → Stable g k → (s t : ℕ) → Agree k g s g t → Alike g s g t

-- rounds is the least such depth
pub record RoundsLeast (g : Graph) : Type 0 where
  pub stable : Stable g (rounds g)
  pub least : (k : ℕ) → Stable g k → rounds g ≤ k
  pub bounded : rounds g ≤ count_of g

-- the representative of a foldable section is the lowest of the foldable ones that are alike; any other section is its own
pub record Represents (g : Graph) : Type 0 where
  pub alike : (s : ℕ) → Alike g (rep g s) g s
  pub member : (s : ℕ) → FoldAble g s → FoldAble g (rep g s)
  pub lowest : (s t : ℕ) → FoldAble g s → FoldAble g t → Alike g t g s → rep g s ≤ t
  pub itself : (s : ℕ) → foldable g s ≡ false → rep g s ≡ s
  -- two foldable sections share it exactly when they are alike
  pub joins : (s t : ℕ) → FoldAble g s → FoldAble g t → Alike g s g t → rep g s ≡ rep g t
  pub parts : (s t : ℕ) → rep g s ≡ rep g t → Alike g s g t

abbrev pub RoundsAreLeast : Type 0
RoundsAreLeast = (g : Graph) → RoundsLeast g

abbrev pub LowestRepresents : Type 0
LowestRepresents = (g : Graph) → Represents g
