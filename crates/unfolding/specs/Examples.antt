-- Examples of what an unfolding tells: small graphs, and what folding and sweeping them gives. The list of the worked examples is that
-- of `runs`.
use Rattle.std.specs.Prelude.{◌≡◌, ℕ, Bool, ◌&&◌, List, [], ◌∷◌, length, ℤ, pos, negsuc, Some, None, Option, ◌==◌, nat_eq}
use Rattle.std.specs.List.{AllByRecursion}
use Rattle.model.specs.declared.Setting.{Setting}
use Rattle.model.specs.declared.Setting.TheVariants.{Foldable, Pinned}
use Rattle.model.specs.declared.Target.TheVariants.{Section, Outside}
use Rattle.model.specs.declared.Relocation.{Relocation}
use Rattle.model.specs.Graph.{Body, Graph, count_of}
use Rattle.steps.specs.Below.{table}
use Rattle.unfolding.specs.Depth.{same_list}
use Rattle.unfolding.specs.Groups.{present_count}
use Rattle.unfolding.specs.Reach.{swept, dropped}
use Rattle.unfolding.specs.Sections.{rep, rounds, folded, merged}

pub record Example : Type 0 where
  pub graph : Graph
  -- the representative of each section
  pub reps : List ℕ
  -- what the fold answers, and the roots after it
  pub left : ℕ
  pub merged : ℕ
  pub rounds : ℕ
  pub roots : List ℕ
  -- what the sweep answers
  pub kept : ℕ
  pub dropped : ℕ

-- the definitions give what the example has
pub record Gives (e : Example) : Type 0 where
  pub reps : table (rep e.graph) (count_of e.graph) ≡ e.reps
  pub left : present_count (folded e.graph) ≡ e.left
  pub merged : merged e.graph ≡ e.merged
  pub rounds : rounds e.graph ≡ e.rounds
  pub roots : (folded e.graph).roots ≡ e.roots
  pub kept : present_count (swept e.graph) ≡ e.kept
  pub dropped : dropped e.graph ≡ e.dropped

-- the same as a test
abbrev pub gives : Example → Bool
gives e =
    same_list nat_eq (table (rep e.graph) (count_of e.graph)) e.reps &&
    (present_count (folded e.graph) == e.left &&
    (merged e.graph == e.merged &&
    (rounds e.graph == e.rounds &&
    (same_list nat_eq (folded e.graph).roots e.roots &&
    (present_count (swept e.graph) == e.kept && dropped e.graph == e.dropped)))))

-- a section, and relocations in it

abbrev pub body : Setting → ℕ → ℕ → List ℕ → List Relocation → Option Body
body setting flags alignment bytes rs =
    Some (record { flags = flags; alignment = alignment; bytes = bytes; setting = setting; relocations = rs })

abbrev pub code : List ℕ
code = 144 ∷ 195 ∷ []

abbrev pub plain : List Relocation → Option Body
plain rs = body Foldable 6 1 code rs

abbrev pub pinned : List Relocation → Option Body
pinned rs = body Pinned 6 1 code rs

abbrev pub calls : ℕ → List Relocation
calls t = record { offset = 0; kind = 4; target = Section t; displacement = pos 0 } ∷ []

abbrev pub name : ℕ → ℕ → ℕ → ℤ → Relocation
name offset kind e d = record { offset = offset; kind = kind; target = Outside e; displacement = d }

-- a relocation to an outside name, and nothing else
abbrev pub names : ℕ → ℕ → ℕ → ℤ → Option Body
names offset kind e d = plain (name offset kind e d ∷ [])

-- present sections without roots, what the fold gives, and a sweep that leaves nothing
abbrev pub rootless : List (Option Body) → List ℕ → ℕ → ℕ → ℕ → Example
rootless sections reps left merged rounds =
    record {
      graph = record { sections = sections; roots = [] };
      reps = reps;
      left = left;
      merged = merged;
      rounds = rounds;
      roots = [];
      kept = 0;
      dropped = length sections;
    }

-- two sections that depth 1 tells apart
abbrev pub apart : Option Body → Option Body → Example
apart a b = rootless (a ∷ b ∷ []) (0 ∷ 1 ∷ []) 2 0 1

abbrev pub examples : List Example
examples =
    -- the empty graph
    rootless [] [] 0 0 0 ∷
    -- two alike without relocations share
    rootless (plain [] ∷ plain [] ∷ []) (0 ∷ 0 ∷ []) 1 1 0 ∷
    -- two alike that call themselves share
    rootless (plain (calls 0) ∷ plain (calls 1) ∷ []) (0 ∷ 0 ∷ []) 1 1 0 ∷
    -- a calls b, b calls a, c calls itself: all three share
    rootless (plain (calls 1) ∷ plain (calls 0) ∷ plain (calls 2) ∷ []) (0 ∷ 0 ∷ 0 ∷ []) 1 2 0 ∷
    -- a calls b, c calls d, and b and d differ in a byte: none share, which depth 2 is the first to tell
    rootless
    (plain (calls 1) ∷ body Foldable 6 1 (1 ∷ []) [] ∷ plain (calls 3) ∷ body Foldable 6 1 (2 ∷ []) [] ∷ [])
    (0 ∷ 1 ∷ 2 ∷ 3 ∷ [])
    4
    0
    2 ∷
    -- alignments 4 and 16; flags; bytes
    apart (body Foldable 6 4 code []) (body Foldable 6 16 code []) ∷
    apart (body Foldable 6 1 code []) (body Foldable 2 1 code []) ∷
    apart (body Foldable 6 1 (0 ∷ []) []) (body Foldable 6 1 (0 ∷ 0 ∷ []) []) ∷
    -- the offset, the type, the name and the displacement of a relocation; a relocation more, and in another order
    apart (names 0 4 1 (pos 0)) (names 1 4 1 (pos 0)) ∷
    apart (names 0 4 1 (pos 0)) (names 0 2 1 (pos 0)) ∷
    apart (names 0 4 1 (pos 0)) (names 0 4 2 (pos 0)) ∷
    apart (names 0 4 1 (pos 0)) (names 0 4 1 (negsuc 0)) ∷
    apart (plain []) (names 0 4 1 (pos 0)) ∷
    apart
    (plain (name 0 4 1 (pos 0) ∷ name 0 4 2 (pos 0) ∷ []))
    (plain (name 0 4 2 (pos 0) ∷ name 0 4 1 (pos 0) ∷ [])) ∷
    -- an outside name is no section, whatever its number
    apart (plain (calls 1)) (names 0 4 1 (pos 0)) ∷
    -- the two alike ones, with one or both pinned: apart
    rootless (pinned [] ∷ plain [] ∷ []) (0 ∷ 1 ∷ []) 2 0 0 ∷
    rootless (plain [] ∷ pinned [] ∷ []) (0 ∷ 1 ∷ []) 2 0 0 ∷
    rootless (pinned [] ∷ pinned [] ∷ []) (0 ∷ 1 ∷ []) 2 0 0 ∷
    -- two that call one pinned section share; two that call two pinned sections, else alike, do not
    rootless (plain (calls 2) ∷ plain (calls 2) ∷ pinned [] ∷ []) (0 ∷ 0 ∷ 2 ∷ []) 2 1 0 ∷
    rootless (plain (calls 2) ∷ plain (calls 3) ∷ pinned [] ∷ pinned [] ∷ []) (0 ∷ 1 ∷ 2 ∷ 3 ∷ []) 4 0 1 ∷
    -- 1 and 2 alike, root 2: the fold leaves 1, now the root, and the sweep leaves 2
    record {
      graph = record { sections = None ∷ plain [] ∷ plain [] ∷ []; roots = 2 ∷ [] };
      reps = 0 ∷ 1 ∷ 1 ∷ [];
      left = 1;
      merged = 1;
      rounds = 0;
      roots = 1 ∷ [];
      kept = 1;
      dropped = 1;
    } ∷
    -- root 0 calls 1 and that calls 2, which is alike to 3: the fold leaves 0, 1 and 2, and so does the sweep
    record {
      graph = record { sections = plain (calls 1) ∷ plain (calls 2) ∷ plain [] ∷ plain [] ∷ []; roots = 0 ∷ [] };
      reps = 0 ∷ 1 ∷ 2 ∷ 2 ∷ [];
      left = 3;
      merged = 1;
      rounds = 2;
      roots = 0 ∷ [];
      kept = 3;
      dropped = 1;
    } ∷
    []

-- the definitions give every example
abbrev pub ExamplesHold : Type 0
ExamplesHold = AllByRecursion Gives examples
