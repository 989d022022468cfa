-- Only tables are accepted: rows that come in order are those of the graph that they tell.
use Rattle.std.proofs.Common.{◌≡◌, ℕ, zero, suc, ◌+◌, ◌-◌, ◌^◌, ◌<◌, ◌≤◌, min, Bool, true, false, cond, ◌&&◌, eqb, ltb, leb, ◌⊎◌, List, [], ◌∷◌, ◌++◌, length, take, drop, Some, None, sym, refl, ap, ◌∙◌, subst, inl, inr, arith}
use Rattle.std.specs.List.{AllByRecursion}
use Rattle.std.proofs.lemmas.List.{length-drop, length-append, append-nil, take_at, take_all, drop_at, drop_all, nil_from_length}
use Rattle.std.proofs.ByRecursion.{All-append}
use Rattle.std.proofs.lemmas.Bool.{eqb-true, ltb-true, leb-true, and_parts, cases_lt}
use Rattle.model.specs.declared.Relocation.{Relocation}
use Rattle.model.specs.declared.Record.{Record}
use Rattle.model.specs.Graph.{Body, record_in}
use Rattle.model.specs.Laws.{LawfulRelocation, LawfulBody}
use Rattle.row.specs.Entry.{Entry, header, section, bytes, relocation, root, end, Ranged}
use Rattle.layout.specs.declared.Due.{Due}
use Rattle.layout.specs.declared.State.{State}
use Rattle.layout.specs.declared.State.TheVariants.{Start, Open, Done}
use Rattle.layout.specs.Layout.{with_bytes, with_relocations, with_sections, with_roots, present_count, entries, Formed, Free}
use Rattle.layout.specs.Order.{run, run_on, settled, after_bytes, after_section, after_relocation, after_root, opened, parts, Parts, body_of, placed, graph_in}
use Rattle.layout.proofs.Placed.{Ascending, ascending_none, with_pairs, length_placed, placed_rows, placed_all}

-- a relocation that only its section's size bounds further
weaker : (low high : ℕ) (r : Relocation) → r.offset < low → LawfulRelocation Free high r → LawfulRelocation Free low r
weaker low high r h l =
    record { offset = h; kind = l.kind; aimed = l.aimed; low = l.low; high = l.high }

-- rows that leave nothing due, from what is due before them: they are the rows of what they tell
pub record Rest (d : Due) (es : List Entry) : Type 0 where
  pub bytes : length (parts es).bytes ≡ d.bytes
  pub values : AllByRecursion (λ b. b < 2 ^ 8) (parts es).bytes
  pub relocations : length (parts es).relocations ≡ d.relocations
  pub lawful_relocations : AllByRecursion (LawfulRelocation Free d.size) (parts es).relocations
  pub ascending : Ascending d.next d.sections (parts es).sections
  pub lawful : AllByRecursion (λ x. LawfulBody Free x.1) (parts es).sections
  pub roots : length (parts es).roots ≡ d.roots
  pub free : AllByRecursion Free (parts es).roots
  pub rows : es
      ≡ with_bytes (length (parts es).bytes) (parts es).bytes
      (with_relocations (parts es).relocations
      (with_pairs (parts es).sections
      (with_roots (parts es).roots (end (d.seen + length (parts es).sections) ∷ []))))

-- a row that came was one that may come
came : (es : List Entry) (b : Bool) (q : State) → run_on (run es) (cond b (Some q) None) ≡ true → (b ≡ true) × (run es q ≡ true)
came es true q h = (refl, h)
came es false q h = absurd (let z : ◌≡◌ {A = ℕ} 0 1 = cc in omega arith)

nothing_due : (d : Due) → settled d ≡ true → (d.bytes ≡ 0) × (d.relocations ≡ 0)
nothing_due d h = let p = and_parts _ _ h in (eqb-true _ _ p.0, eqb-true _ _ p.1)

done_ends : (es : List Entry) → run es Done ≡ true → es ≡ []
done_ends [] h = refl
done_ends (e ∷ es) h = absurd (let z : ◌≡◌ {A = ℕ} 0 1 = cc in omega arith)

-- the rows of some bytes do not depend on the bound, as long as it is large enough
with_bytes_enough : (j k : ℕ) (bs : List ℕ) (rest : List Entry) → length bs ≤ j → length bs ≤ k → with_bytes j bs rest ≡ with_bytes k bs rest
with_bytes_enough zero zero bs rest h l = refl
with_bytes_enough zero (suc k) [] rest h l = refl
with_bytes_enough zero (suc k) (b ∷ bs) rest h l = absurd (omega arith)
with_bytes_enough (suc j) zero [] rest h l = refl
with_bytes_enough (suc j) zero (b ∷ bs) rest h l = absurd (omega arith)
with_bytes_enough (suc j) (suc k) [] rest h l = refl
with_bytes_enough (suc j) (suc k) (b ∷ bs) rest h l =
    let xs : List ℕ = b ∷ bs in
    let low : length (drop 16 xs) ≤ j = simp length-drop (omega arith) in
    let high : length (drop 16 xs) ≤ k = simp length-drop (omega arith) in
    ap (λ (es : List Entry). bytes (take 16 xs) ∷ es) (with_bytes_enough j k (drop 16 xs) rest low high)

-- sixteen bytes a row
pub with_bytes_some : (bs : List ℕ) (rest : List Entry) → 0 < length bs
    → with_bytes (length bs) bs rest ≡ bytes (take 16 bs) ∷ with_bytes (length (drop 16 bs)) (drop 16 bs) rest
with_bytes_some [] rest h = absurd (omega arith)
with_bytes_some (b ∷ bs) rest h =
    let xs : List ℕ = b ∷ bs in
    let low : length (drop 16 xs) ≤ length bs = simp length-drop (omega arith) in
    ap (λ (es : List Entry). bytes (take 16 xs) ∷ es) (with_bytes_enough (length bs) (length (drop 16 xs)) (drop 16 xs) rest low (omega arith))

-- a row with as many bytes as are due, before the rows of the rest
row_cut : (bs cs : List ℕ) → length bs ≡ min 16 (length bs + length cs) → (take 16 (bs ++ cs) ≡ bs) × (drop 16 (bs ++ cs) ≡ cs)
row_cut bs cs e = go (cases_lt (length bs) 16)
  where
    go : (length bs < 16) ⊎ (16 ≤ length bs) → (take 16 (bs ++ cs) ≡ bs) × (drop 16 (bs ++ cs) ≡ cs)
    go (inl few) =
        let none : cs ≡ [] = nil_from_length cs (omega arith) in
        let short : length (bs ++ cs) ≤ 16 = simp length-append (omega arith) in
        (take_all 16 (bs ++ cs) short ∙ (ap (λ (xs : List ℕ). bs ++ xs) none ∙ append-nil bs), drop_all 16 (bs ++ cs) short ∙ sym none)
    go (inr full) = let at : length bs ≡ 16 = omega arith in (take_at bs cs 16 at, drop_at bs cs 16 at)

with_bytes_more : (bs cs : List ℕ) (rest : List Entry) → length bs ≡ min 16 (length bs + length cs) → 0 < length bs
    → with_bytes (length (bs ++ cs)) (bs ++ cs) rest ≡ bytes bs ∷ with_bytes (length cs) cs rest
with_bytes_more bs cs rest e h =
    let some : 0 < length (bs ++ cs) = simp length-append (omega arith) in
    let cut = row_cut bs cs e in
    with_bytes_some (bs ++ cs) rest some
    ∙ ap (λ (xs : List ℕ). bytes xs ∷ with_bytes (length (drop 16 (bs ++ cs))) (drop 16 (bs ++ cs)) rest) cut.0
    ∙ ap (λ (xs : List ℕ). bytes bs ∷ with_bytes (length xs) xs rest) cut.1

no_bytes : (bs : List ℕ) (rest : List Entry) → bs ≡ [] → with_bytes (length bs) bs rest ≡ rest
no_bytes bs rest e = ap (λ (xs : List ℕ). with_bytes (length xs) xs rest) e

nothing_before : (bs : List ℕ) (rs : List Relocation) (ps : List (ℕ × Body)) (rest : List Entry) → bs ≡ [] → rs ≡ [] → ps ≡ []
    → with_bytes (length bs) bs (with_relocations rs (with_pairs ps rest)) ≡ rest
nothing_before bs rs ps rest b r p =
    no_bytes bs (with_relocations rs (with_pairs ps rest)) b
    ∙ ap (λ (xs : List Relocation). with_relocations xs (with_pairs ps rest)) r
    ∙ ap (λ (xs : List (ℕ × Body)). with_pairs xs rest) p

-- the record of a section is what its row told, where as many bytes and relocations came as it said
record_back : (m : Record) (p : Parts) → length p.bytes ≡ m.size → length p.relocations ≡ m.relocations → record_in (body_of m p) ≡ m
record_back m p e f i =
    record { flags = m.flags; alignment = m.alignment; size = e i; relocations = f i; setting = m.setting }

section_rest : (s : ℕ) (m : Record) (es : List Entry) (d : Due) → Ranged (section s m)
    → (settled d && (ltb d.seen d.sections && (leb d.next s && ltb s d.sections))) ≡ true → Rest (after_section d s m) es → Rest d (section s m ∷ es)
section_rest s m es d r b t =
    let now = and_parts _ _ b in
    let none = nothing_due d now.0 in
    let range = and_parts _ _ (and_parts _ _ now.1).1 in
    record {
      bytes = sym none.0;
      values = tt;
      relocations = sym none.1;
      lawful_relocations = tt;
      ascending = (leb-true _ _ range.0, ltb-true _ _ range.1, t.ascending);
      lawful = (
        record {
          flags = r.1.flags;
          alignment = r.1.alignment;
          size = subst (λ (k : ℕ). k < 2 ^ 16) (sym t.bytes) r.1.size;
          bytes = t.values;
          few = subst (λ (k : ℕ). k < 2 ^ 16) (sym t.relocations) r.1.relocations;
          relocations = subst (λ (k : ℕ). AllByRecursion (LawfulRelocation Free k) (parts es).relocations) (sym t.bytes) t.lawful_relocations;
        },
        t.lawful,
      );
      roots = t.roots;
      free = t.free;
      rows =
          ap (λ (xs : List Entry). section s m ∷ xs) t.rows
          ∙ ap (λ (x : Record). section s x ∷ with_bytes (length (parts es).bytes) (parts es).bytes (with_relocations (parts es).relocations (with_pairs (parts es).sections (with_roots (parts es).roots (end (suc d.seen + length (parts es).sections) ∷ []))))) (sym (record_back m (parts es) t.bytes t.relocations))
          ∙ ap (λ (k : ℕ). section s (record_in (body_of m (parts es))) ∷ with_bytes (length (parts es).bytes) (parts es).bytes (with_relocations (parts es).relocations (with_pairs (parts es).sections (with_roots (parts es).roots (end k ∷ []))))) (omega arith);
    }

bytes_rest : (bs : List ℕ) (es : List Entry) (d : Due) → Ranged (bytes bs) → eqb (length bs) (min 16 d.bytes) ≡ true
    → Rest (after_bytes d (length bs)) es → Rest d (bytes bs ∷ es)
bytes_rest bs es d r b t =
    let cut : length bs ≡ min 16 d.bytes = eqb-true _ _ b in
    let left : length (parts es).bytes ≡ d.bytes - length bs = t.bytes in
    record {
      bytes = length-append bs (parts es).bytes ∙ omega arith;
      values = All-append _ bs (parts es).bytes r.2 t.values;
      relocations = t.relocations;
      lawful_relocations = t.lawful_relocations;
      ascending = t.ascending;
      lawful = t.lawful;
      roots = t.roots;
      free = t.free;
      rows =
          ap (λ (xs : List Entry). bytes bs ∷ xs) t.rows
          ∙ sym (with_bytes_more bs (parts es).bytes _ (omega arith) r.0);
    }

relocation_rest : (x : Relocation) (es : List Entry) (d : Due) → Ranged (relocation x)
    → (eqb d.bytes 0 && (ltb 0 d.relocations && ltb x.offset d.size)) ≡ true → Rest (after_relocation d) es → Rest d (relocation x ∷ es)
relocation_rest x es d r b t =
    let now = and_parts _ _ b in
    let range = and_parts _ _ now.1 in
    let some : 0 < d.relocations = ltb-true _ _ range.0 in
    let left : length (parts es).relocations ≡ d.relocations - 1 = t.relocations in
    let none : (parts es).bytes ≡ [] = nil_from_length _ (t.bytes ∙ eqb-true _ _ now.0) in
    record {
      bytes = t.bytes;
      values = t.values;
      relocations = omega arith;
      lawful_relocations = (weaker d.size 65535 x (ltb-true _ _ range.1) r, t.lawful_relocations);
      ascending = t.ascending;
      lawful = t.lawful;
      roots = t.roots;
      free = t.free;
      rows =
          ap (λ (xs : List Entry). relocation x ∷ xs) (t.rows ∙ no_bytes (parts es).bytes _ none)
          ∙ sym (no_bytes (parts es).bytes _ none);
    }

root_rest : (x : ℕ) (es : List Entry) (d : Due) → Ranged (root x) → (settled d && ltb 0 d.roots) ≡ true → Rest (after_root d) es → Rest d (root x ∷ es)
root_rest x es d r b t =
    let now = and_parts _ _ b in
    let due = nothing_due d now.0 in
    let some : 0 < d.roots = ltb-true _ _ now.1 in
    let left : length (parts es).roots ≡ d.roots - 1 = t.roots in
    let nb : (parts es).bytes ≡ [] = nil_from_length _ (t.bytes ∙ due.0) in
    let nr : (parts es).relocations ≡ [] = nil_from_length _ (t.relocations ∙ due.1) in
    let ns : (parts es).sections ≡ [] = ascending_none d.sections _ t.ascending in
    record {
      bytes = t.bytes;
      values = t.values;
      relocations = t.relocations;
      lawful_relocations = t.lawful_relocations;
      ascending = subst (λ (xs : List (ℕ × Body)). Ascending d.next d.sections xs) (sym ns) tt;
      lawful = t.lawful;
      roots = omega arith;
      free = (r, t.free);
      rows =
          ap (λ (xs : List Entry). root x ∷ xs) (t.rows ∙ nothing_before _ _ _ _ nb nr ns)
          ∙ sym (nothing_before _ _ _ _ nb nr ns);
    }

end_rest : (k : ℕ) (d : Due) → (settled d && (eqb d.roots 0 && eqb k d.seen)) ≡ true → Rest d (end k ∷ [])
end_rest k d b =
    let now = and_parts _ _ b in
    let due = nothing_due d now.0 in
    let last = and_parts _ _ now.1 in
    record {
      bytes = sym due.0;
      values = tt;
      relocations = sym due.1;
      lawful_relocations = tt;
      ascending = tt;
      lawful = tt;
      roots = sym (eqb-true _ _ last.0);
      free = tt;
      rows = ap (λ (n : ℕ). end n ∷ []) (let same : k ≡ d.seen = eqb-true _ _ last.1 in omega arith);
    }

only_open : (es : List Entry) (d : Due) → AllByRecursion Ranged es → run es (Open d) ≡ true → Rest d es
only_open [] d r h = absurd (let z : ◌≡◌ {A = ℕ} 0 1 = cc in omega arith)
only_open (header n k ∷ es) d r h = absurd (let z : ◌≡◌ {A = ℕ} 0 1 = cc in omega arith)
only_open (section s m ∷ es) d r h =
    let t = came es _ _ h in section_rest s m es d r.0 t.0 (only_open es (after_section d s m) r.1 t.1)
only_open (bytes bs ∷ es) d r h =
    let t = came es _ _ h in bytes_rest bs es d r.0 t.0 (only_open es (after_bytes d (length bs)) r.1 t.1)
only_open (relocation x ∷ es) d r h =
    let t = came es _ _ h in relocation_rest x es d r.0 t.0 (only_open es (after_relocation d) r.1 t.1)
only_open (root x ∷ es) d r h =
    let t = came es _ _ h in root_rest x es d r.0 t.0 (only_open es (after_root d) r.1 t.1)
only_open (end k ∷ es) d r h =
    let t = came es _ Done h in
    subst (λ (xs : List Entry). Rest d (end k ∷ xs)) (sym (done_ends es t.1)) (end_rest k d t.0)

-- rows that come in order from the start are those of the graph that they tell, which keeps the laws
pub only : (es : List Entry) → AllByRecursion Ranged es → run es Start ≡ true → (es ≡ entries (graph_in es)) × Formed (graph_in es)
only [] r h = absurd (let z : ◌≡◌ {A = ℕ} 0 1 = cc in omega arith)
only (section s m ∷ es) r h = absurd (let z : ◌≡◌ {A = ℕ} 0 1 = cc in omega arith)
only (bytes bs ∷ es) r h = absurd (let z : ◌≡◌ {A = ℕ} 0 1 = cc in omega arith)
only (relocation x ∷ es) r h = absurd (let z : ◌≡◌ {A = ℕ} 0 1 = cc in omega arith)
only (root x ∷ es) r h = absurd (let z : ◌≡◌ {A = ℕ} 0 1 = cc in omega arith)
only (end k ∷ es) r h = absurd (let z : ◌≡◌ {A = ℕ} 0 1 = cc in omega arith)
only (header n k ∷ es) r h =
    let t = only_open es (opened n k) r.1 h in
    let p = parts es in
    let same = placed_rows 0 n p.sections (with_roots p.roots (end (present_count (placed 0 n p.sections)) ∷ [])) n (omega arith) t.ascending in
    let nb : p.bytes ≡ [] = nil_from_length _ t.bytes in
    let nr : p.relocations ≡ [] = nil_from_length _ t.relocations in (
      ap (λ (xs : List Entry). header n k ∷ xs) (t.rows ∙ no_bytes p.bytes _ nb ∙ ap (λ (xs : List Relocation). with_relocations xs (with_pairs p.sections (with_roots p.roots (end (0 + length p.sections) ∷ [])))) nr)
          ∙ ap (λ (c : ℕ). header n k ∷ with_pairs p.sections (with_roots p.roots (end c ∷ []))) (let c : present_count (placed 0 n p.sections) ≡ length p.sections = same.1 in omega arith)
          ∙ ap (λ (xs : List Entry). header n k ∷ xs) (sym same.0)
          ∙ ap (λ (c : ℕ). header c k ∷ with_sections 0 (placed 0 n p.sections) (with_roots p.roots (end (present_count (placed 0 n p.sections)) ∷ []))) (sym (length_placed 0 n p.sections))
          ∙ ap (λ (c : ℕ). header (length (placed 0 n p.sections)) c ∷ with_sections 0 (placed 0 n p.sections) (with_roots p.roots (end (present_count (placed 0 n p.sections)) ∷ []))) (sym t.roots),
      record {
        few = subst (λ (c : ℕ). c ≤ 1024) (sym (length_placed 0 n p.sections)) r.0.0;
        few_roots = subst (λ (c : ℕ). c ≤ 4096) (sym t.roots) r.0.1;
        bodies = placed_all (LawfulBody Free) 0 n p.sections t.lawful;
        rooted = t.free;
      },
    )
