-- Every table is accepted: its rows come in the order that the reader asks for.
use Rattle.std.proofs.Common.{◌≡◌, ℕ, zero, suc, ◌+◌, ◌-◌, ◌<◌, ◌≤◌, min, Bool, true, cond, eqb, List, [], ◌∷◌, length, take, drop, Some, None, Option, sym, refl, ap, ◌∙◌, arith}
use Rattle.std.specs.List.{AllByRecursion}
use Rattle.std.proofs.lemmas.List.{length-take, length-drop}
use Rattle.std.proofs.ByRecursion.{All-from_get_or, All-weaker}
use Rattle.std.proofs.lemmas.Bool.{eq-eqb, lt-ltb, le-leb, and_from}
use Rattle.model.specs.declared.Relocation.{Relocation}
use Rattle.model.specs.Graph.{Body, Graph, section_of}
use Rattle.model.specs.Laws.{LawfulBody}
use Rattle.row.specs.Entry.{Entry, end}
use Rattle.layout.specs.declared.Due.{Due}
use Rattle.layout.specs.declared.State.{State}
use Rattle.layout.specs.declared.State.TheVariants.{Start, Open, Done}
use Rattle.layout.specs.Layout.{with_bytes, with_relocations, with_sections, with_roots, present_count, entries, Formed, Free}
use Rattle.layout.specs.Order.{run, run_on}

abbrev pub due : (n next seen roots size bytes relocations : ℕ) → Due
due n x s r z b q =
    record { sections = n; next = x; seen = s; roots = r; size = z; bytes = b; relocations = q }

-- a row that may come is passed over
pub run_step : (es : List Entry) (b : Bool) (q : State) → b ≡ true → run_on (run es) (cond b (Some q) None) ≡ run es q
run_step es b q e = ap (λ (t : Bool). run_on (run es) (cond t (Some q) None)) e

bytes_left : (xs : List ℕ) → length xs - length (take 16 xs) ≡ length (drop 16 xs)
bytes_left xs = simp (length-take, length-drop) (omega arith)

pub run_bytes : (k : ℕ) (bs : List ℕ) (rest : List Entry) (n x s r z q : ℕ) → length bs ≤ k
    → run (with_bytes k bs rest) (Open (due n x s r z (length bs) q)) ≡ run rest (Open (due n x s r z 0 q))
run_bytes zero [] rest n x s r z q h = refl
run_bytes zero (b ∷ bs) rest n x s r z q h = absurd (omega arith)
run_bytes (suc k) [] rest n x s r z q h = refl
run_bytes (suc k) (b ∷ bs) rest n x s r z q h =
    let xs : List ℕ = b ∷ bs in
    let more : List Entry = with_bytes k (drop 16 xs) rest in
    let short : length (drop 16 xs) ≤ k = simp length-drop (omega arith) in
    run_step more (eqb (length (take 16 xs)) (min 16 (length xs))) (Open (due n x s r z (length xs - length (take 16 xs)) q)) (eq-eqb _ _ (length-take 16 xs))
    ∙ ap (λ (m : ℕ). run more (Open (due n x s r z m q))) (bytes_left xs)
    ∙ run_bytes k (drop 16 xs) rest n x s r z q short

pub run_relocations : (rs : List Relocation) (rest : List Entry) (n x s r z : ℕ) → AllByRecursion (λ y. y.offset < z) rs
    → run (with_relocations rs rest) (Open (due n x s r z 0 (length rs))) ≡ run rest (Open (due n x s r z 0 0))
run_relocations [] rest n x s r z h = refl
run_relocations (y ∷ rs) rest n x s r z h =
    run_step (with_relocations rs rest) _ (Open (due n x s r z 0 (suc (length rs) - 1)))
    (and_from _ _ refl (and_from _ _ (lt-ltb _ _ (omega arith)) (lt-ltb _ _ h.0)))
    ∙ ap (λ (m : ℕ). run (with_relocations rs rest) (Open (due n x s r z 0 m))) (omega arith)
    ∙ run_relocations rs rest n x s r z h.1

pub run_roots : (ts : List ℕ) (n x s z : ℕ) → run (with_roots ts (end s ∷ [])) (Open (due n x s (length ts) z 0 0)) ≡ true
run_roots [] n x s z = run_step [] _ Done (and_from _ _ refl (and_from _ _ refl (eq-eqb s s refl)))
run_roots (t ∷ ts) n x s z =
    run_step (with_roots ts (end s ∷ [])) _ (Open (due n n s (suc (length ts) - 1) z 0 0))
    (and_from _ _ refl (lt-ltb _ _ (omega arith)))
    ∙ ap (λ (m : ℕ). run (with_roots ts (end s ∷ [])) (Open (due n n s m z 0 0))) (omega arith)
    ∙ run_roots ts n n s z

-- the offsets of a section's relocations are below its size
abbrev Offsets : Option Body → Type 0
Offsets None = Unit {0}
Offsets (Some b) = AllByRecursion (λ y. y.offset < length b.bytes) b.relocations

run_sections : (bs : List (Option Body)) (ts : List ℕ) (s n x seen z total : ℕ) → seen ≤ x → x ≤ s → s + length bs ≤ n → AllByRecursion Offsets bs → seen + present_count bs ≡ total
    → run (with_sections s bs (with_roots ts (end total ∷ []))) (Open (due n x seen (length ts) z 0 0)) ≡ true
run_sections [] ts s n x seen z total behind low fits h e =
    let same : seen ≡ total = omega arith in
    ap (λ (k : ℕ). run (with_roots ts (end k ∷ [])) (Open (due n x seen (length ts) z 0 0))) (sym same) ∙ run_roots ts n x seen z
run_sections (None ∷ bs) ts s n x seen z total behind low fits h e =
    run_sections bs ts (suc s) n x seen z total behind (omega arith) (omega arith) h.1 e
run_sections (Some b ∷ bs) ts s n x seen z total behind low fits h e =
    let rest : List Entry = with_sections (suc s) bs (with_roots ts (end total ∷ [])) in
    let size : ℕ = length b.bytes in
    run_step (with_bytes size b.bytes (with_relocations b.relocations rest)) _ (Open (due n (suc s) (suc seen) (length ts) size size (length b.relocations)))
    (and_from _ _ refl (and_from _ _ (lt-ltb _ _ (omega arith)) (and_from _ _ (le-leb _ _ low) (lt-ltb _ _ (omega arith)))))
    ∙ run_bytes size b.bytes (with_relocations b.relocations rest) n (suc s) (suc seen) (length ts) size (length b.relocations) (omega arith)
    ∙ run_relocations b.relocations rest n (suc s) (suc seen) (length ts) size h.0
    ∙ run_sections bs ts (suc s) n (suc s) (suc seen) size total (omega arith) (omega arith) (omega arith) h.1 (omega arith)

offsets_of : (o : Option Body) → ((b : Body) → o ≡ Some b → LawfulBody Free b) → Offsets o
offsets_of None h = tt
offsets_of (Some b) h = All-weaker _ (λ y. y.offset < length b.bytes) (λ y l. l.offset) b.relocations (h b refl).relocations

pub accepts : (g : Graph) → Formed g → run (entries g) Start ≡ true
accepts g v =
    run_sections g.sections g.roots 0 (length g.sections) 0 0 0 (present_count g.sections) (omega arith) (omega arith) (omega arith)
    (All-from_get_or Offsets g.sections None (λ s h. offsets_of (section_of g s) (v.bodies s)))
    (omega arith)
