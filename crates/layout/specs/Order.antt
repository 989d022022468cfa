-- Which row may come next, and the graph that the rows tell.
use Rattle.std.specs.Prelude.{ℕ, zero, suc, ◌-◌, min, Bool, true, false, cond, ◌&&◌, List, [], ◌∷◌, ◌++◌, length, Some, None, Option, ◌==◌, nat_le, nat_lt}
use Rattle.model.specs.declared.Relocation.{Relocation}
use Rattle.model.specs.declared.Record.{Record}
use Rattle.model.specs.Graph.{Body, Graph}
use Rattle.row.specs.Entry.{Entry, header, section, bytes, relocation, root, end}
use Rattle.layout.specs.declared.Due.{Due}
use Rattle.layout.specs.declared.State.{State}
use Rattle.layout.specs.declared.State.TheVariants.{Start, Open, Done}

-- all that was announced of the last section has come
abbrev pub settled : Due → Bool
settled d = d.bytes == 0 && d.relocations == 0

abbrev pub opened : ℕ → ℕ → Due
opened n k =
    record { sections = n; next = 0; seen = 0; roots = k; size = 0; bytes = 0; relocations = 0 }

abbrev pub after_section : Due → ℕ → Record → Due
after_section d s r =
    record d {
      next = suc s;
      seen = suc d.seen;
      size = r.size;
      bytes = r.size;
      relocations = r.relocations;
    }

abbrev pub after_bytes : Due → ℕ → Due
after_bytes d k = record d { bytes = d.bytes - k }

abbrev pub after_relocation : Due → Due
after_relocation d = record d { relocations = d.relocations - 1 }

abbrev pub after_root : Due → Due
after_root d = record d { next = d.sections; roots = d.roots - 1 }

-- what a row leads to, if it may come now:
-- sections ascend and are below the count; the bytes of a section come sixteen a row, the last row the rest, before its
-- relocations, whose offsets are below its size; the roots come after all sections; the last row has the count of
-- sections that came
abbrev pub step_open : Due → Entry → Option State
step_open d (header n k) = None
step_open d (section s r) =
    cond
    (settled d && (nat_lt d.seen d.sections && (nat_le d.next s && nat_lt s d.sections)))
    (Some (Open (after_section d s r)))
    None
step_open d (bytes bs) =
    cond (length bs == min 16 d.bytes) (Some (Open (after_bytes d (length bs)))) None
step_open d (relocation r) =
    cond
    (d.bytes == 0 && (nat_lt 0 d.relocations && nat_lt r.offset d.size))
    (Some (Open (after_relocation d)))
    None
step_open d (root t) = cond (settled d && nat_lt 0 d.roots) (Some (Open (after_root d))) None
step_open d (end k) = cond (settled d && (d.roots == 0 && k == d.seen)) (Some Done) None

abbrev pub step_start : Entry → Option State
step_start (header n k) = Some (Open (opened n k))
step_start (section s r) = None
step_start (bytes bs) = None
step_start (relocation r) = None
step_start (root t) = None
step_start (end k) = None

abbrev pub step : State → Entry → Option State
step Start e = step_start e
step (Open d) e = step_open d e
step Done e = None

abbrev pub is_done : State → Bool
is_done Start = false
is_done (Open d) = false
is_done Done = true

abbrev pub run_on : (State → Bool) → Option State → Bool
run_on rest None = false
run_on rest (Some q) = rest q

-- each row may come when it does, and the last leaves nothing due
abbrev pub run : List Entry → State → Bool
run [] q = is_done q
run (e ∷ es) q = run_on (run es) (step q e)

-- what some rows tell: first the bytes and relocations of the section before them, then sections with their numbers, and
-- the roots
pub record Parts : Type 0 where
  pub bytes : List ℕ
  pub relocations : List Relocation
  pub sections : List (ℕ × Body)
  pub roots : List ℕ

abbrev pub body_of : Record → Parts → Body
body_of r p =
    record {
      flags = r.flags;
      alignment = r.alignment;
      bytes = p.bytes;
      setting = r.setting;
      relocations = p.relocations;
    }

abbrev pub told_by : Entry → Parts → Parts
told_by (header n k) p = p
told_by (section s r) p =
    record { bytes = []; relocations = []; sections = (s, body_of r p) ∷ p.sections; roots = p.roots }
told_by (bytes bs) p =
    record {
      bytes = bs ++ p.bytes;
      relocations = p.relocations;
      sections = p.sections;
      roots = p.roots;
    }
told_by (relocation r) p =
    record {
      bytes = p.bytes;
      relocations = r ∷ p.relocations;
      sections = p.sections;
      roots = p.roots;
    }
told_by (root t) p =
    record {
      bytes = p.bytes;
      relocations = p.relocations;
      sections = p.sections;
      roots = t ∷ p.roots;
    }
told_by (end k) p = p

abbrev pub parts : List Entry → Parts
parts [] = record { bytes = []; relocations = []; sections = []; roots = [] }
parts (e ∷ es) = told_by e (parts es)

-- n sections, numbered from s, of which those with a number are present
abbrev pub placed : ℕ → ℕ → List (ℕ × Body) → List (Option Body)
placed s zero xs = []
placed s (suc n) [] = None ∷ placed (suc s) n []
placed s (suc n) (x ∷ xs) =
    cond (x.0 == s) (Some x.1 ∷ placed (suc s) n xs) (None ∷ placed (suc s) n (x ∷ xs))

-- how many sections the first row tells
abbrev pub announced : List Entry → ℕ
announced [] = 0
announced (header n k ∷ es) = n
announced (section s r ∷ es) = 0
announced (bytes bs ∷ es) = 0
announced (relocation r ∷ es) = 0
announced (root t ∷ es) = 0
announced (end k ∷ es) = 0

-- the section graph that the rows tell
abbrev pub graph_in : List Entry → Graph
graph_in es =
    record { sections = placed 0 (announced es) (parts es).sections; roots = (parts es).roots }
