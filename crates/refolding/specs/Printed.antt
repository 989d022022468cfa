-- What is printed of a text: the table that it is, swept and folded, or the row of its refusal.
use Rattle.std.specs.Prelude.{◌≡◌, ℕ, Bool, true, false, cond, ⊤, List, [], ◌∷◌, length, is_some, Some, None, Option, Vec, nat_le}
use Rattle.fault.specs.declared.Fault.{Fault}
use Rattle.fault.specs.declared.Kind.TheVariants.{Oversize}
use Rattle.fault.specs.declared.Layer.TheVariants.{Output}
use Rattle.model.specs.Graph.{Graph}
use Rattle.row_writer.specs.Writing.{fault_row}
use Rattle.layout.specs.Layout.{text_of}
use Rattle.layout.specs.Reading.{fault_of, graph_of}
use Rattle.calls.specs.declared.Call.TheVariants.{Sweep, Fold}
use Rattle.runs.specs.State.{after}
use Rattle.refolding.specs.declared.Failure.{Failure}
use Rattle.refolding.specs.declared.Failure.TheVariants.{Refused, Memory}

-- the refusal of a text of more than 65,536 bytes
abbrev pub too_long : Fault
too_long = record { kind = Oversize; place = 65536; layer = Output }

-- why a text is refused, if it is: for its length first
abbrev pub refusal_of : List ℕ → Option Fault
refusal_of t = cond (nat_le (length t) 65536) (fault_of t) (Some too_long)

-- a graph after a sweep and a fold
abbrev pub refolded : Graph → Graph
refolded g = (after g (Sweep ∷ Fold ∷ [])).graph

abbrev pub row_or : Option Fault → List ℕ → List ℕ
row_or None table = table
row_or (Some f) table = fault_row f

-- what is printed of a text
abbrev pub printed : List ℕ → List ℕ
printed t = row_or (refusal_of t) (text_of (refolded (graph_of t)))

-- whether it is refused
abbrev pub is_refused : List ℕ → Bool
is_refused t = is_some (refusal_of t)

-- a table that is answered is what is printed of the text, which is not refused
abbrev pub IsTable : {A : Type 0} → List ℕ → Vec ℕ A → Type 0
IsTable t v = (v.items ≡ printed t) × (is_refused t ≡ false)

-- and a row that is answered is what is printed of a text that is refused; for want of memory nothing is said
abbrev pub IsRefusal : List ℕ → Failure → Type 0
IsRefusal t (Refused v) = (v.items ≡ printed t) × (is_refused t ≡ true)
IsRefusal t (Memory e) = ⊤

-- the row of a refusal
abbrev pub IsFaultRow : Fault → Failure → Type 0
IsFaultRow f (Refused v) = v.items ≡ fault_row f
IsFaultRow f (Memory e) = ⊤
