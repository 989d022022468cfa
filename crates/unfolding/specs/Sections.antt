-- What unfoldings tell by the rules: the mark is the number of a pinned section and "foldable" of another; the face is flags, alignment
-- and bytes.
use Rattle.std.specs.Prelude.{ℕ, Bool, true, false, ◌&&◌, List, [], Some, None, Option, ◌==◌, nat_eq}
use Rattle.model.specs.declared.Setting.{Setting}
use Rattle.model.specs.declared.Setting.TheVariants.{Foldable, Pinned}
use Rattle.model.specs.Graph.{Body, Graph, Present}
use Rattle.unfolding.specs.Depth.{same_list}
use Rattle.unfolding.specs.Telling.{Telling, AgreeBy, AlikeBy}
use Rattle.unfolding.specs.Groups.{StableBy, rounds_by, rep_by, ApartBy, folded_by, merged_by}
use Rattle.unfolding.specs.Reach.{Reached}

-- what is told of every section, at depth 0 too; `absent` is the mark of a section that is not there
pub data Mark : Type 0 where
  pinned : ℕ → Mark
  foldable : Mark
  absent : Mark

-- what is told from depth 1 on
pub record Face : Type 0 where
  pub flags : ℕ
  pub alignment : ℕ
  pub bytes : List ℕ

abbrev pub mark_of : ℕ → Option Setting → Mark
mark_of s None = absent
mark_of s (Some Foldable) = foldable
mark_of s (Some Pinned) = pinned s

abbrev pub face_of : Option Body → Face
face_of None = record { flags = 0; alignment = 0; bytes = [] }
face_of (Some b) = record { flags = b.flags; alignment = b.alignment; bytes = b.bytes }

abbrev pub same_mark : Mark → Mark → Bool
same_mark (pinned s) (pinned t) = s == t
same_mark (pinned s) foldable = false
same_mark (pinned s) absent = false
same_mark foldable (pinned t) = false
same_mark foldable foldable = true
same_mark foldable absent = false
same_mark absent (pinned t) = false
same_mark absent foldable = false
same_mark absent absent = true

abbrev pub same_face : Face → Face → Bool
same_face x y =
    (x.flags == y.flags) && (x.alignment == y.alignment && same_list nat_eq x.bytes y.bytes)

unfoldable pub rules : Telling Mark Face
rules = record { mark = mark_of; face = face_of; same_mark = same_mark; same_face = same_face }

-- the definitions at these rules

-- agreement at a depth, and at every depth
abbrev pub Agree : ℕ → Graph → ℕ → Graph → ℕ → Type 0
Agree k g s h t = AgreeBy rules k g s h t

abbrev pub Alike : Graph → ℕ → Graph → ℕ → Type 0
Alike g s h t = AlikeBy rules g s h t

abbrev pub Stable : Graph → ℕ → Type 0
Stable g k = StableBy rules g k

abbrev pub rounds : Graph → ℕ
rounds g = rounds_by rules g

abbrev pub rep : Graph → ℕ → ℕ
rep g s = rep_by rules g s

abbrev pub folded : Graph → Graph
folded g = folded_by rules g

abbrev pub merged : Graph → ℕ
merged g = merged_by rules g

-- no two different present sections are alike
abbrev pub Apart : Graph → Type 0
Apart g = ApartBy rules g

-- every present section is reached
abbrev pub AllReached : Graph → Type 0
AllReached g = (s : ℕ) → Present g s → Reached g s
