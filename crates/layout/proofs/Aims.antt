-- A graph keeps all laws exactly when its rows do, and none of them names an absent section.
use Rattle.std.proofs.Common.{◌≡◌, ℕ, zero, suc, ◌<◌, ◌≤◌, true, false, not, ◌⊎◌, List, [], ◌∷◌, length, get_or, drop, is_some, Some, None, Option, refl, ap, subst, inl, inr, arith}
use Rattle.std.specs.List.{AllByRecursion}
use Rattle.std.proofs.lemmas.List.{get_or_past}
use Rattle.std.proofs.ByRecursion.{All-from_get_or, All-get_or, All-weaker}
use Rattle.std.proofs.lemmas.Bool.{cases_lt}
use Rattle.model.specs.declared.Relocation.{Relocation}
use Rattle.model.specs.declared.Target.{Target}
use Rattle.model.specs.declared.Target.TheVariants.{Section, Outside}
use Rattle.model.specs.Graph.{Body, Graph, Present, section_of, section_named}
use Rattle.model.specs.Laws.{Aimed, LawfulRelocation, LawfulBody, Valid}
use Rattle.row.specs.Entry.{Entry, end}
use Rattle.layout.specs.Layout.{with_bytes, with_relocations, with_sections, with_roots, entries, Formed, Free}
use Rattle.layout.specs.Reading.{named, absent_in}

-- the section that a row names, if any, is present
abbrev pub Aims : Graph → Entry → Type 0
Aims g e = absent_in g (named e) ≡ false

present_yes : (o : Option Body) → not (is_some o) ≡ false → is_some o ≡ true
present_yes None h = absurd (let z : ◌≡◌ {A = ℕ} 0 1 = cc in omega arith)
present_yes (Some b) h = refl

present_not : (o : Option Body) → is_some o ≡ true → not (is_some o) ≡ false
present_not None h = absurd (let z : ◌≡◌ {A = ℕ} 0 1 = cc in omega arith)
present_not (Some b) h = refl

-- a present section has a number below the count
pub present_below : (bs : List (Option Body)) (s : ℕ) → is_some (get_or bs s None) ≡ true → s < length bs
present_below bs s h = go (cases_lt s (length bs))
  where
    go : (s < length bs) ⊎ (length bs ≤ s) → s < length bs
    go (inl l) = l
    go (inr l) =
        let none : get_or bs s None ≡ None = get_or_past bs s None l in
        absurd (let z : ◌≡◌ {A = ℕ} 0 1 = cc in omega arith)

-- a target that is aimed at a present section, where it is aimed at a free one, and the other way round
aimed_present : (g : Graph) (t : Target) → absent_in g (section_named t) ≡ false → Aimed Free t → Aimed (Present g) t
aimed_present g (Section t) h f = present_yes (section_of g t) h
aimed_present g (Outside e) h f = f

aimed_free : (g : Graph) (t : Target) → length g.sections ≤ 1024 → Aimed (Present g) t → Aimed Free t × (absent_in g (section_named t) ≡ false)
aimed_free g (Section t) few h = (omega (arith, present_below g.sections t h), present_not (section_of g t) h)
aimed_free g (Outside e) few h = (h, refl)

-- the rows of a section, taken apart
aims_bytes : (g : Graph) (k : ℕ) (bs : List ℕ) (rest : List Entry) → AllByRecursion (Aims g) rest → AllByRecursion (Aims g) (with_bytes k bs rest)
aims_bytes g zero bs rest h = h
aims_bytes g (suc k) [] rest h = h
aims_bytes g (suc k) (b ∷ bs) rest h = (refl, aims_bytes g k (drop 16 (b ∷ bs)) rest h)

aims_past_bytes : (g : Graph) (k : ℕ) (bs : List ℕ) (rest : List Entry) → AllByRecursion (Aims g) (with_bytes k bs rest) → AllByRecursion (Aims g) rest
aims_past_bytes g zero bs rest h = h
aims_past_bytes g (suc k) [] rest h = h
aims_past_bytes g (suc k) (b ∷ bs) rest h = aims_past_bytes g k (drop 16 (b ∷ bs)) rest h.1

-- each relocation of the list aims at a present section
abbrev AimedAll : Graph → List Relocation → Type 0
AimedAll g rs = AllByRecursion (λ r. absent_in g (section_named r.target) ≡ false) rs

aims_relocations : (g : Graph) (rs : List Relocation) (rest : List Entry) → AimedAll g rs → AllByRecursion (Aims g) rest → AllByRecursion (Aims g) (with_relocations rs rest)
aims_relocations g [] rest a h = h
aims_relocations g (r ∷ rs) rest a h = (a.0, aims_relocations g rs rest a.1 h)

aims_past_relocations : (g : Graph) (rs : List Relocation) (rest : List Entry) → AllByRecursion (Aims g) (with_relocations rs rest) → AimedAll g rs × AllByRecursion (Aims g) rest
aims_past_relocations g [] rest h = (tt, h)
aims_past_relocations g (r ∷ rs) rest h = let p = aims_past_relocations g rs rest h.1 in ((h.0, p.0), p.1)

abbrev AimedBody : Graph → Option Body → Type 0
AimedBody g None = Unit {0}
AimedBody g (Some b) = AimedAll g b.relocations

aims_sections : (g : Graph) (s : ℕ) (bs : List (Option Body)) (rest : List Entry) → AllByRecursion (AimedBody g) bs → AllByRecursion (Aims g) rest → AllByRecursion (Aims g) (with_sections s bs rest)
aims_sections g s [] rest a h = h
aims_sections g s (None ∷ bs) rest a h = aims_sections g (suc s) bs rest a.1 h
aims_sections g s (Some b ∷ bs) rest a h =
    (refl, aims_bytes g _ b.bytes _ (aims_relocations g b.relocations _ a.0 (aims_sections g (suc s) bs rest a.1 h)))

aims_past_sections : (g : Graph) (s : ℕ) (bs : List (Option Body)) (rest : List Entry) → AllByRecursion (Aims g) (with_sections s bs rest) → AllByRecursion (AimedBody g) bs × AllByRecursion (Aims g) rest
aims_past_sections g s [] rest h = (tt, h)
aims_past_sections g s (None ∷ bs) rest h = let p = aims_past_sections g (suc s) bs rest h in ((tt, p.0), p.1)
aims_past_sections g s (Some b ∷ bs) rest h =
    let q = aims_past_relocations g b.relocations _ (aims_past_bytes g _ b.bytes _ h.1) in
    let p = aims_past_sections g (suc s) bs rest q.1 in
    ((q.0, p.0), p.1)

aims_roots : (g : Graph) (ts : List ℕ) (k : ℕ) → AllByRecursion (Present g) ts → AllByRecursion (Aims g) (with_roots ts (end k ∷ []))
aims_roots g [] k h = (refl, tt)
aims_roots g (t ∷ ts) k h = (present_not (section_of g t) h.0, aims_roots g ts k h.1)

aims_past_roots : (g : Graph) (ts : List ℕ) (k : ℕ) → AllByRecursion (Aims g) (with_roots ts (end k ∷ [])) → AllByRecursion (Present g) ts
aims_past_roots g [] k h = tt
aims_past_roots g (t ∷ ts) k h = (present_yes (section_of g t) h.0, aims_past_roots g ts k h.1)

-- a body's laws, with present sections for free ones and the other way round
relocations_present : (g : Graph) (size : ℕ) (rs : List Relocation) → AimedAll g rs → AllByRecursion (LawfulRelocation Free size) rs → AllByRecursion (LawfulRelocation (Present g) size) rs
relocations_present g size [] a l = tt
relocations_present g size (r ∷ rs) a l = (
  record {
    offset = l.0.offset;
    kind = l.0.kind;
    aimed = aimed_present g r.target a.0 l.0.aimed;
    low = l.0.low;
    high = l.0.high;
  },
  relocations_present g size rs a.1 l.1,
)

relocations_free : (g : Graph) (size : ℕ) (rs : List Relocation) → length g.sections ≤ 1024 → AllByRecursion (LawfulRelocation (Present g) size) rs
    → AllByRecursion (LawfulRelocation Free size) rs × AimedAll g rs
relocations_free g size [] few l = (tt, tt)
relocations_free g size (r ∷ rs) few l =
    let p = relocations_free g size rs few l.1 in
    let q = aimed_free g r.target few l.0.aimed in
    ((record { offset = l.0.offset; kind = l.0.kind; aimed = q.0; low = l.0.low; high = l.0.high }, p.0), (q.1, p.1))

body_present : (g : Graph) (b : Body) → AimedAll g b.relocations → LawfulBody Free b → LawfulBody (Present g) b
body_present g b a l =
    record {
      flags = l.flags;
      alignment = l.alignment;
      size = l.size;
      bytes = l.bytes;
      few = l.few;
      relocations = relocations_present g _ b.relocations a l.relocations;
    }

body_free : (g : Graph) (b : Body) → length g.sections ≤ 1024 → LawfulBody (Present g) b → LawfulBody Free b
body_free g b few l =
    record {
      flags = l.flags;
      alignment = l.alignment;
      size = l.size;
      bytes = l.bytes;
      few = l.few;
      relocations = (relocations_free g _ b.relocations few l.relocations).0;
    }

-- the body that stands at a number is aimed, where all are
at_number : (g : Graph) (bs : List (Option Body)) (s : ℕ) (b : Body) → get_or bs s None ≡ Some b → AllByRecursion (AimedBody g) bs → AimedAll g b.relocations
at_number g bs s b e a =
    let here : is_some (get_or bs s None) ≡ true = ap is_some e in
    let below : s < length bs = present_below bs s here in
    subst (AimedBody g) e (All-get_or (AimedBody g) bs s None below a)

pub valid_from_aims : (g : Graph) → Formed g → AllByRecursion (Aims g) (entries g) → Valid g
valid_from_aims g v h =
    let p = aims_past_sections g 0 g.sections _ h.1 in
    record {
      few = v.few;
      few_roots = v.few_roots;
      bodies = λ s b e. body_present g b (at_number g g.sections s b e p.0) (v.bodies s b e);
      rooted = aims_past_roots g g.roots _ p.1;
    }

aimed_of : (g : Graph) (o : Option Body) → length g.sections ≤ 1024 → ((b : Body) → o ≡ Some b → LawfulBody (Present g) b) → AimedBody g o
aimed_of g None few h = tt
aimed_of g (Some b) few h = (relocations_free g _ b.relocations few (h b refl).relocations).1

pub formed_from_valid : (g : Graph) → Valid g → Formed g
formed_from_valid g v =
    record {
      few = v.few;
      few_roots = v.few_roots;
      bodies = λ s b e. body_free g b v.few (v.bodies s b e);
      rooted = All-weaker _ Free (λ t h. let l : t < length g.sections = present_below g.sections t h in let f : length g.sections ≤ 1024 = v.few in omega arith) g.roots v.rooted;
    }

pub aims_from_valid : (g : Graph) → Valid g → AllByRecursion (Aims g) (entries g)
aims_from_valid g v = (
  refl,
  aims_sections g 0 g.sections _
      (All-from_get_or (AimedBody g) g.sections None (λ s h. aimed_of g (section_of g s) v.few (v.bodies s)))
      (aims_roots g g.roots _ v.rooted),
)
