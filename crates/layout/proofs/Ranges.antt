-- The numbers of a table's rows are in their ranges.
use Rattle.std.proofs.Common.{◌≡◌, ℕ, zero, suc, ◌+◌, ◌^◌, ◌<◌, ◌≤◌, List, [], ◌∷◌, length, take, drop, Some, None, Option, refl, arith}
use Rattle.std.specs.List.{AllByRecursion}
use Rattle.std.proofs.lemmas.List.{length-take}
use Rattle.std.proofs.ByRecursion.{All-take, All-drop, All-from_get_or}
use Rattle.model.specs.declared.Relocation.{Relocation}
use Rattle.model.specs.Graph.{Body, Graph, section_of}
use Rattle.model.specs.Laws.{LawfulRelocation, LawfulBody}
use Rattle.row.specs.Entry.{Entry, Ranged}
use Rattle.layout.specs.Layout.{with_bytes, with_relocations, with_sections, with_roots, present_count, entries, Formed, Free}

ranged_bytes : (k : ℕ) (bs : List ℕ) (rest : List Entry) → AllByRecursion (λ b. b < 2 ^ 8) bs → AllByRecursion Ranged rest → AllByRecursion Ranged (with_bytes k bs rest)
ranged_bytes zero bs rest h r = r
ranged_bytes (suc k) [] rest h r = r
ranged_bytes (suc k) (b ∷ bs) rest h r =
    let xs : List ℕ = b ∷ bs in
    let some : 0 < length (take 16 xs) = simp length-take (omega arith) in
    let few : length (take 16 xs) ≤ 16 = simp length-take (omega arith) in
    ((some, few, All-take _ 16 xs h), ranged_bytes k (drop 16 xs) rest (All-drop _ 16 xs h) r)

ranged_relocations : (rs : List Relocation) (size : ℕ) (rest : List Entry) → size < 2 ^ 16 → AllByRecursion (LawfulRelocation Free size) rs → AllByRecursion Ranged rest → AllByRecursion Ranged (with_relocations rs rest)
ranged_relocations [] size rest few h r = r
ranged_relocations (x ∷ rs) size rest few h r = (
  record { offset = omega (arith, h.0.offset); kind = h.0.kind; aimed = h.0.aimed; low = h.0.low; high = h.0.high },
  ranged_relocations rs size rest few h.1 r,
)

abbrev Lawful : Option Body → Type 0
Lawful None = Unit {0}
Lawful (Some b) = LawfulBody Free b

ranged_sections : (s : ℕ) (bs : List (Option Body)) (rest : List Entry) → s + length bs ≤ 1024 → AllByRecursion Lawful bs → AllByRecursion Ranged rest → AllByRecursion Ranged (with_sections s bs rest)
ranged_sections s [] rest few h r = r
ranged_sections s (None ∷ bs) rest few h r = ranged_sections (suc s) bs rest (omega arith) h.1 r
ranged_sections s (Some b ∷ bs) rest few h r = (
  (omega arith, record { flags = h.0.flags; alignment = h.0.alignment; size = h.0.size; relocations = h.0.few }),
  ranged_bytes (length b.bytes) b.bytes _ h.0.bytes
      (ranged_relocations b.relocations (length b.bytes) _ h.0.size h.0.relocations (ranged_sections (suc s) bs rest (omega arith) h.1 r)),
)

ranged_roots : (ts : List ℕ) (rest : List Entry) → AllByRecursion Free ts → AllByRecursion Ranged rest → AllByRecursion Ranged (with_roots ts rest)
ranged_roots [] rest h r = r
ranged_roots (t ∷ ts) rest h r = (h.0, ranged_roots ts rest h.1 r)

pub count_below : (bs : List (Option Body)) → present_count bs ≤ length bs
count_below [] = omega arith
count_below (None ∷ bs) = omega (arith, count_below bs)
count_below (Some b ∷ bs) = omega (arith, count_below bs)

lawful_of : (o : Option Body) → ((b : Body) → o ≡ Some b → LawfulBody Free b) → Lawful o
lawful_of None h = tt
lawful_of (Some b) h = h b refl

pub ranged_entries : (g : Graph) → Formed g → AllByRecursion Ranged (entries g)
ranged_entries g v =
    let few : present_count g.sections ≤ 1024 = omega (arith, count_below g.sections, v.few) in (
      (v.few, v.few_roots),
      ranged_sections 0 g.sections _ (omega (arith, v.few))
          (All-from_get_or Lawful g.sections None (λ s h. lawful_of (section_of g s) (v.bodies s)))
          (ranged_roots g.roots _ v.rooted (few, tt)),
    )
