-- The small graph.
use Rattle.std.specs.Prelude.{ℕ, [], ◌∷◌, pos, Some, None, Option, slice_index_or}
use Rattle.std.specs.List.{slice_get}
use Rattle.model.specs.declared.Setting.TheVariants.{Foldable, Pinned}
use Rattle.model.specs.declared.Target.TheVariants.{Section}
use Rattle.model.specs.declared.Setting.{Setting}
use Rattle.model.specs.declared.Relocation.{Relocation}
use Rattle.model.specs.Graph.{Body, Graph}

-- the relocation of a section that calls section t
abbrev pub call_of : ℕ → Relocation
call_of t = record { offset = 0; kind = 4; target = Section t; displacement = pos 0 }

-- a section of one byte that calls section t
abbrev pub caller : ℕ → Body
caller t =
    record {
      flags = 6;
      alignment = 1;
      bytes = 195 ∷ [];
      setting = Foldable;
      relocations = call_of t ∷ [];
    }

-- the section that section s calls
abbrev pub called : ℕ → Option ℕ
called s = slice_get (1 ∷ 0 ∷ 2 ∷ []) s

abbrev pub ring : Graph
ring = record { sections = Some (caller 1) ∷ Some (caller 0) ∷ Some (caller 2) ∷ []; roots = 2 ∷ [] }

-- the second graph

-- a section of one byte that calls nothing
abbrev pub leaf : Setting → ℕ → Body
leaf x y = record { flags = 6; alignment = 1; bytes = y ∷ []; setting = x; relocations = [] }

-- the section that section s calls, and its byte
abbrev pub forked : ℕ → Option ℕ
forked s = slice_index_or (Some 1 ∷ (None ∷ (Some 3 ∷ []))) s None

abbrev pub sole_byte : ℕ → Option ℕ
sole_byte s = slice_index_or (Some 195 ∷ (Some 1 ∷ (Some 195 ∷ (Some 2 ∷ (None ∷ (Some 1 ∷ [])))))) s None

abbrev pub fork : Graph
fork =
    record {
      sections =
          Some (caller 1) ∷
          (Some (leaf Foldable 1) ∷ (Some (caller 3) ∷ (Some (leaf Foldable 2) ∷ (None ∷ (Some (leaf Pinned 1) ∷ [])))));
      roots = 0 ∷ [];
    }
