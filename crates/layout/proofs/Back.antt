-- The rows of a graph tell that graph.
use Rattle.std.proofs.Common.{◌≡◌, ℕ, zero, suc, ◌≤◌, List, [], ◌∷◌, ◌++◌, length, take, drop, Some, None, Option, sym, refl, ap, ◌∙◌, arith}
use Rattle.std.specs.List.{AllByRecursion}
use Rattle.std.proofs.lemmas.List.{append_assoc, append-nil, length-drop, take-append-drop}
use Rattle.std.proofs.ByRecursion.{All-weaker}
use Rattle.std.proofs.lemmas.Bool.{eq-eqb, ne_eqb, cond-true, cond-false}
use Rattle.model.specs.declared.Relocation.{Relocation}
use Rattle.model.specs.Graph.{Body, Graph, record_in}
use Rattle.row.specs.Entry.{Entry, section, bytes, relocation, root, end}
use Rattle.layout.specs.Layout.{with_bytes, with_relocations, with_section, with_sections, with_roots, present_count, entries}
use Rattle.layout.specs.Order.{parts, Parts, told_by, placed, graph_in}

-- bytes, then relocations, before what further rows tell
abbrev front : List ℕ → List Relocation → Parts → Parts
front bs rs p =
    record { bytes = bs ++ p.bytes; relocations = rs ++ p.relocations; sections = p.sections; roots = p.roots }

parts_bytes : (k : ℕ) (bs : List ℕ) (rest : List Entry) → length bs ≤ k → parts (with_bytes k bs rest) ≡ front bs [] (parts rest)
parts_bytes zero [] rest h = refl
parts_bytes zero (b ∷ bs) rest h = absurd (omega arith)
parts_bytes (suc k) [] rest h = refl
parts_bytes (suc k) (b ∷ bs) rest h =
    let xs : List ℕ = b ∷ bs in
    let short : length (drop 16 xs) ≤ k = simp length-drop (omega arith) in
    ap (told_by (bytes (take 16 xs))) (parts_bytes k (drop 16 xs) rest short)
    ∙ ap (λ (ys : List ℕ). record { bytes = ys; relocations = (parts rest).relocations; sections = (parts rest).sections; roots = (parts rest).roots })
    (sym (append_assoc (take 16 xs) (drop 16 xs) (parts rest).bytes) ∙ ap (λ (ys : List ℕ). ys ++ (parts rest).bytes) (take-append-drop 16 xs))

parts_relocations : (rs : List Relocation) (rest : List Entry) → parts (with_relocations rs rest) ≡ front [] rs (parts rest)
parts_relocations [] rest = refl
parts_relocations (r ∷ rs) rest = ap (told_by (relocation r)) (parts_relocations rs rest)

-- rows that begin with a section, a root or the end tell no bytes and no relocations of a section before them
abbrev Fresh : Parts → Type 0
Fresh p = (p.bytes ≡ []) × (p.relocations ≡ [])

abbrev sections_before : List (ℕ × Body) → Parts → Parts
sections_before xs p =
    record { bytes = []; relocations = []; sections = xs ++ p.sections; roots = p.roots }

abbrev with_those : Body → Parts → List ℕ → List Relocation → ℕ → Parts
with_those b p bs rs s =
    record {
      bytes = [];
      relocations = [];
      sections = (
        s,
        record {
          flags = b.flags;
          alignment = b.alignment;
          bytes = bs;
          setting = b.setting;
          relocations = rs;
        },
      )
          ∷ p.sections;
      roots = p.roots;
    }

parts_section : (s : ℕ) (b : Body) (rest : List Entry) → Fresh (parts rest) → parts (with_section s b rest) ≡ sections_before ((s, b) ∷ []) (parts rest)
parts_section s b rest f =
    ap (told_by (section s (record_in b)))
    (parts_bytes (length b.bytes) b.bytes (with_relocations b.relocations rest) (omega arith) ∙ ap (front b.bytes []) (parts_relocations b.relocations rest))
    ∙ ap (λ (bs : List ℕ). with_those b (parts rest) (b.bytes ++ bs) (b.relocations ++ (parts rest).relocations) s) f.0
    ∙ ap (λ (bs : List ℕ). with_those b (parts rest) bs (b.relocations ++ (parts rest).relocations) s) (append-nil b.bytes)
    ∙ ap (λ (rs : List Relocation). with_those b (parts rest) b.bytes (b.relocations ++ rs) s) f.1
    ∙ ap (λ (rs : List Relocation). with_those b (parts rest) b.bytes rs s) (append-nil b.relocations)

-- the present sections with their numbers
abbrev numbered : ℕ → List (Option Body) → List (ℕ × Body)
numbered s [] = []
numbered s (None ∷ bs) = numbered (suc s) bs
numbered s (Some b ∷ bs) = (s, b) ∷ numbered (suc s) bs

parts_sections : (s : ℕ) (bs : List (Option Body)) (rest : List Entry) → Fresh (parts rest) → parts (with_sections s bs rest) ≡ sections_before (numbered s bs) (parts rest)
parts_sections s [] rest f =
    λ i. record { bytes = f.0 i; relocations = f.1 i; sections = (parts rest).sections; roots = (parts rest).roots }
parts_sections s (None ∷ bs) rest f = parts_sections (suc s) bs rest f
parts_sections s (Some b ∷ bs) rest f =
    let deeper = parts_sections (suc s) bs rest f in
    parts_section s b (with_sections (suc s) bs rest) (ap (λ (p : Parts). p.bytes) deeper, ap (λ (p : Parts). p.relocations) deeper)
    ∙ ap (sections_before ((s, b) ∷ [])) deeper

parts_roots : (ts : List ℕ) (k : ℕ) → parts (with_roots ts (end k ∷ [])) ≡ record { bytes = []; relocations = []; sections = []; roots = ts }
parts_roots [] k = refl
parts_roots (t ∷ ts) k = ap (told_by (root t)) (parts_roots ts k)

numbered_low : (s : ℕ) (bs : List (Option Body)) → AllByRecursion (λ x. s ≤ x.0) (numbered s bs)
numbered_low s [] = tt
numbered_low s (None ∷ bs) = All-weaker _ (λ x. s ≤ x.0) (λ x h. omega arith) _ (numbered_low (suc s) bs)
numbered_low s (Some b ∷ bs) = (omega arith, All-weaker _ (λ x. s ≤ x.0) (λ x h. omega arith) _ (numbered_low (suc s) bs))

placed_above : (s n : ℕ) (xs : List (ℕ × Body)) → AllByRecursion (λ x. suc s ≤ x.0) xs → placed s (suc n) xs ≡ None ∷ placed (suc s) n xs
placed_above s n [] h = refl
placed_above s n (x ∷ xs) h =
    let apart : x.0 ≡ s → ⊥ = λ (e : x.0 ≡ s). omega (arith, h.0) in cond-false _ _ _ (ne_eqb x.0 s apart)

placed_numbered : (s : ℕ) (bs : List (Option Body)) → placed s (length bs) (numbered s bs) ≡ bs
placed_numbered s [] = refl
placed_numbered s (None ∷ bs) =
    placed_above s (length bs) (numbered (suc s) bs) (numbered_low (suc s) bs)
    ∙ ap (λ (ys : List (Option Body)). None ∷ ys) (placed_numbered (suc s) bs)
placed_numbered s (Some b ∷ bs) =
    cond-true _ _ _ (eq-eqb s s refl) ∙ ap (λ (ys : List (Option Body)). Some b ∷ ys) (placed_numbered (suc s) bs)

pub back : (g : Graph) → graph_in (entries g) ≡ g
back g =
    let k : ℕ = present_count g.sections in
    let ends : List Entry = with_roots g.roots (end k ∷ []) in
    let told = parts_roots g.roots k in
    let all =
    parts_sections 0 g.sections ends (ap (λ (p : Parts). p.bytes) told, ap (λ (p : Parts). p.relocations) told)
    ∙ ap (sections_before (numbered 0 g.sections)) told in
    let here : (parts (entries g)).sections ≡ numbered 0 g.sections = ap (λ (p : Parts). p.sections) all ∙ append-nil (numbered 0 g.sections) in
    let sections : placed 0 (length g.sections) (parts (entries g)).sections ≡ g.sections =
    ap (placed 0 (length g.sections)) here ∙ placed_numbered 0 g.sections in
    let roots : (parts (entries g)).roots ≡ g.roots = ap (λ (p : Parts). p.roots) all in
    λ i. record { sections = sections i; roots = roots i }
