-- The verdict on a text, and the section graph that it tells.
use Rattle.std.specs.Prelude.{ℕ, ◌+◌, Bool, false, cond, not, List, [], ◌∷◌, length, is_some, Some, None, Ok, Err, Option, Result}
use Rattle.std.specs.Option.{option_map, option_or}
use Rattle.fault.specs.declared.Fault.{Fault}
use Rattle.fault.specs.declared.Kind.TheVariants.{BadRow, Dangling}
use Rattle.fault.specs.declared.Layer.TheVariants.{Format}
use Rattle.model.specs.Graph.{Graph, section_of, section_named}
use Rattle.lines.specs.Lines.{lines, row_start, verdict}
use Rattle.row.specs.declared.Cause.{Cause}
use Rattle.row.specs.Entry.{Entry, header, section, bytes, relocation, root, end}
use Rattle.row.specs.Reading.{read_row}
use Rattle.layout.specs.declared.State.{State}
use Rattle.layout.specs.declared.State.TheVariants.{Start}
use Rattle.layout.specs.Order.{step, is_done, graph_in}

abbrev pub step_read : State → Result Entry Cause → Option State
step_read q (Ok e) = step q e
step_read q (Err c) = None

-- what a row of the text leads to, if it forms and may come now
abbrev pub step_line : State → List ℕ → Option State
step_line q l = step_read q (read_row l)

-- the number of the first row that does not form, or of the row that is missing
abbrev pub bad_row : List ℕ → Option ℕ
bad_row t = verdict step_line is_done (lines t) Start

abbrev pub kept : Result Entry Cause → List Entry → List Entry
kept (Ok e) es = e ∷ es
kept (Err c) es = es

-- what the rows tell, but for those that do not form
abbrev pub entries_in : List (List ℕ) → List Entry
entries_in [] = []
entries_in (l ∷ ls) = kept (read_row l) (entries_in ls)

-- the section graph that a text tells
abbrev pub graph_of : List ℕ → Graph
graph_of t = graph_in (entries_in (lines t))

-- the section that a relocation or a root names
abbrev pub named : Entry → Option ℕ
named (header n k) = None
named (section s r) = None
named (bytes bs) = None
named (relocation r) = section_named r.target
named (root t) = Some t
named (end k) = None

abbrev pub absent_in : Graph → Option ℕ → Bool
absent_in g None = false
absent_in g (Some t) = not (is_some (section_of g t))

-- a row names a section that is absent
abbrev pub dangles : Graph → Result Entry Cause → Bool
dangles g (Ok e) = absent_in g (named e)
dangles g (Err c) = false

-- the place of the first row that names an absent section, where the rows begin at `at`
abbrev pub dangling_from : Graph → ℕ → List (List ℕ) → Option ℕ
dangling_from g at [] = None
dangling_from g at (l ∷ ls) = cond (dangles g (read_row l)) (Some at) (dangling_from g (at + length l) ls)

abbrev pub bad_row_at : ℕ → Fault
bad_row_at p = record { kind = BadRow; place = p; layer = Format }

abbrev pub dangling_at : ℕ → Fault
dangling_at p = record { kind = Dangling; place = p; layer = Format }

-- the refusal of a text, if it is refused: the first row that does not form, at its first byte; then the first row that
-- names a section which has no row of its own
abbrev pub fault_of : List ℕ → Option Fault
fault_of t =
    option_or
    (option_map (λ k. bad_row_at (row_start (lines t) k)) (bad_row t))
    (option_map dangling_at (dangling_from (graph_of t) 0 (lines t)))
