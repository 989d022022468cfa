-- The questions to a reader, from what it holds.
use Rattle.std.specs.Prelude.{◌≡◌, ℕ, ◌^◌, ◌<◌, true, Decides, bytes_eq, List, [], drop, Some, None, Option, Result, unwrap_or, slice_index_or, refl}
use Rattle.std.specs.List.{AllByRecursion}
use Rattle.std.proofs.Common.{sym, ap, subst, ◌∙◌, ⊎_elim, arith}
use Rattle.std.specs.Option.{option_map, option_or}
use Rattle.std.proofs.Math.Seq.{drop-nil}
use Rattle.std.proofs.lemmas.Bool.{cond-false, le-ltb}
use Rattle.model.specs.declared.Record.{Record}
use Rattle.model.specs.Graph.{Body, empty, section_of, count_of, told_record, record_of, byte_of, relocation_of, root_count_of, root_of}
use Rattle.model.specs.Laws.{Valid}
use Rattle.graph.specs.Bytes.{bytes_in, bytes_of, digest}
use Rattle.graph.proofs.Told.{byte_nth}
use Rattle.lines.specs.Lines.{lines, row_start}
use Rattle.row.specs.declared.Cause.{Cause}
use Rattle.row.specs.Entry.{Entry}
use Rattle.row.specs.Reading.{read_row}
use Rattle.layout.specs.Reading.{bad_row, graph_of, bad_row_at, dangling_at, dangling_from, fault_of}
use Rattle.layout.proofs.Texts.{verdict_stands}
use Rattle.table.specs.Notes.{starts_of}
use Rattle.table.specs.Places.{sections_told, roots_told, record_told, rows_from, byte_in, Tells, byte_rows, byte_rows_in, relocation_in, root_in}
use Rattle.table.specs.ByteRows.{rows_decide}
use Rattle.table.specs.Held.{held}
use Rattle.table.specs.Outcomes.{held_parts, held_cases}
use Rattle.table.specs.Questions.{sections_right, roots_right, none_read, record_right, none_byte, byte_right, no_rows, byte_rows_right, relocation_right, root_right}

formed_from : (t : List ℕ) → fault_of t ≡ None → bad_row t ≡ None
formed_from t h = go (bad_row t) h
  where
    go : (o : Option ℕ) → option_or (option_map (λ k. bad_row_at (row_start (lines t) k)) o) (option_map dangling_at (dangling_from (graph_of t) 0 (lines t))) ≡ None → o ≡ None
    go None e = refl
    go (Some k) e = absurd (let z : ◌≡◌ {A = ℕ} 0 1 = cc in omega arith)

none_from : (p : Option ℕ) → rows_from [] p ≡ []
none_from None = refl
none_from (Some p) = drop-nil p

-- a fact of what is held: it holds of no text, and of a text whose rows form with its own starts
by_text : (P : List ℕ → List (Option ℕ) → Type 0) → ((xs : List (Option ℕ)) → P [] xs) → ((t : List ℕ) → bad_row t ≡ None → P t (starts_of t))
    → (t : List ℕ) (xs : List (Option ℕ)) → held t xs ≡ true → P t xs
by_text P none some t xs h =
    let p = held_parts t xs h in
    ⊎_elim (λ e. subst (λ (u : List ℕ). P u xs) (sym e) (none xs))
    (λ f. subst (P t) (sym p.1) (some t (formed_from t f))) (held_cases t p.0)

pub count_held : (t : List ℕ) (xs : List (Option ℕ)) → held t xs ≡ true → sections_told (read_row t) ≡ count_of (graph_of t)
count_held = by_text (λ t xs. sections_told (read_row t) ≡ count_of (graph_of t)) (λ xs. ap sections_told none_read) sections_right

pub roots_held : (t : List ℕ) (xs : List (Option ℕ)) → held t xs ≡ true → roots_told (read_row t) ≡ root_count_of (graph_of t)
roots_held = by_text (λ t xs. roots_told (read_row t) ≡ root_count_of (graph_of t)) (λ xs. ap roots_told none_read) roots_right

pub record_held : (s : ℕ) (t : List ℕ) (xs : List (Option ℕ)) → held t xs ≡ true → record_told (read_row (rows_from t (slice_index_or xs s None))) ≡ record_of (graph_of t) s
record_held s =
    by_text (λ t xs. record_told (read_row (rows_from t (slice_index_or xs s None))) ≡ record_of (graph_of t) s)
    (λ xs. ap (λ (u : List ℕ). record_told (read_row u)) (none_from (slice_index_or xs s None)) ∙ ap record_told none_read)
    (λ t f. record_right t f s)

-- what the rows of a section tell, where there are any

rows_told : (t : List ℕ) (start : Option ℕ) (o : Option (List ℕ)) → o ≡ option_map (λ p. drop p t) start → rows_from t start ≡ unwrap_or o []
rows_told t None o e = ap (λ (x : Option (List ℕ)). unwrap_or x []) (sym e)
rows_told t (Some p) o e = ap (λ (x : Option (List ℕ)). unwrap_or x []) (sym e)

pub record_some : (s : ℕ) (t : List ℕ) (xs : List (Option ℕ)) (u : List ℕ) → held t xs ≡ true → Some u ≡ option_map (λ p. drop p t) (slice_index_or xs s None)
    → record_told (read_row u) ≡ record_of (graph_of t) s
record_some s t xs u h e =
    ap (λ (v : List ℕ). record_told (read_row v)) (sym (rows_told t (slice_index_or xs s None) (Some u) e)) ∙ record_held s t xs h

pub record_none : (s : ℕ) (t : List ℕ) (xs : List (Option ℕ)) → held t xs ≡ true → None ≡ option_map (λ p. drop p t) (slice_index_or xs s None)
    → None ≡ record_of (graph_of t) s
record_none s t xs h e =
    sym (ap record_told none_read)
    ∙ ap (λ (v : List ℕ). record_told (read_row v)) (sym (rows_told t (slice_index_or xs s None) None e)) ∙ record_held s t xs h

pub byte_held : (s i : ℕ) (t : List ℕ) (xs : List (Option ℕ)) → held t xs ≡ true → byte_in (rows_from t (slice_index_or xs s None)) i ≡ byte_of (graph_of t) s i
byte_held s i =
    by_text (λ t xs. byte_in (rows_from t (slice_index_or xs s None)) i ≡ byte_of (graph_of t) s i)
    (λ xs. ap (λ (u : List ℕ). byte_in u i) (none_from (slice_index_or xs s None)) ∙ none_byte i)
    (λ t f. byte_right t f s i)

pub byte_some : (s i : ℕ) (t : List ℕ) (xs : List (Option ℕ)) (u : List ℕ) → held t xs ≡ true → Some u ≡ option_map (λ p. drop p t) (slice_index_or xs s None)
    → byte_in u i ≡ byte_of (graph_of t) s i
byte_some s i t xs u h e = ap (λ (v : List ℕ). byte_in v i) (sym (rows_told t (slice_index_or xs s None) (Some u) e)) ∙ byte_held s i t xs h

pub byte_none : (s i : ℕ) (t : List ℕ) (xs : List (Option ℕ)) → held t xs ≡ true → None ≡ option_map (λ p. drop p t) (slice_index_or xs s None)
    → None ≡ byte_of (graph_of t) s i
byte_none s i t xs h e = sym (none_byte i) ∙ ap (λ (v : List ℕ). byte_in v i) (sym (rows_told t (slice_index_or xs s None) None e)) ∙ byte_held s i t xs h

-- the bytes of a section together

pub tells_some : (s : ℕ) (t : List ℕ) (xs : List (Option ℕ)) (u : List ℕ) → held t xs ≡ true → Some u ≡ option_map (λ p. drop p t) (slice_index_or xs s None)
    → Tells u (bytes_of (graph_of t) s)
tells_some s t xs u h e = λ i. byte_some s i t xs u h e ∙ byte_nth (section_of (graph_of t) s) i

bytes_none : (s : ℕ) (t : List ℕ) (xs : List (Option ℕ)) → held t xs ≡ true → None ≡ option_map (λ p. drop p t) (slice_index_or xs s None)
    → [] ≡ bytes_of (graph_of t) s
bytes_none s t xs h e = go (section_of (graph_of t) s) (record_none s t xs h e)
  where
    go : (o : Option Body) → None ≡ told_record o → [] ≡ bytes_in o
    go None r = refl
    go (Some b) r = absurd (let z : ◌≡◌ {A = ℕ} 0 1 = cc in omega arith)

pub digest_none : (s : ℕ) (t : List ℕ) (xs : List (Option ℕ)) → held t xs ≡ true → None ≡ option_map (λ p. drop p t) (slice_index_or xs s None)
    → digest [] ≡ digest (bytes_of (graph_of t) s)
digest_none s t xs h e = ap digest (bytes_none s t xs h e)

byte_rows_held : (s : ℕ) (t : List ℕ) (xs : List (Option ℕ)) → held t xs ≡ true → byte_rows_in (rows_from t (slice_index_or xs s None)) ≡ byte_rows (bytes_of (graph_of t) s)
byte_rows_held s =
    by_text (λ t xs. byte_rows_in (rows_from t (slice_index_or xs s None)) ≡ byte_rows (bytes_of (graph_of t) s))
    (λ xs. ap byte_rows_in (none_from (slice_index_or xs s None)) ∙ no_rows)
    (λ t f. byte_rows_right t f s)

pub byte_rows_some : (s : ℕ) (t : List ℕ) (xs : List (Option ℕ)) (u : List ℕ) → held t xs ≡ true → Some u ≡ option_map (λ p. drop p t) (slice_index_or xs s None)
    → byte_rows_in u ≡ byte_rows (bytes_of (graph_of t) s)
byte_rows_some s t xs u h e = ap byte_rows_in (sym (rows_told t (slice_index_or xs s None) (Some u) e)) ∙ byte_rows_held s t xs h

pub byte_rows_none : (s : ℕ) (t : List ℕ) (xs : List (Option ℕ)) → held t xs ≡ true → None ≡ option_map (λ p. drop p t) (slice_index_or xs s None)
    → [] ≡ byte_rows (bytes_of (graph_of t) s)
unfolding byte_rows
byte_rows_none s t xs h e = ap byte_rows (bytes_none s t xs h e)

pub relocation_held : (s j : ℕ) (t : List ℕ) (xs : List (Option ℕ)) → held t xs ≡ true
    → relocation_in (rows_from t (slice_index_or xs s None)) (record_told (read_row (rows_from t (slice_index_or xs s None)))) j ≡ relocation_of (graph_of t) s j
relocation_held s j t xs h =
    ap (λ (r : Option Record). relocation_in (rows_from t (slice_index_or xs s None)) r j) (record_held s t xs h)
    ∙ by_text (λ t xs. relocation_in (rows_from t (slice_index_or xs s None)) (record_of (graph_of t) s) j ≡ relocation_of (graph_of t) s j) (λ xs. refl) (λ t f. relocation_right t f s j) t xs h

pub relocation_some : (s j : ℕ) (t : List ℕ) (xs : List (Option ℕ)) (u : List ℕ) → held t xs ≡ true → Some u ≡ option_map (λ p. drop p t) (slice_index_or xs s None)
    → relocation_in u (record_told (read_row u)) j ≡ relocation_of (graph_of t) s j
relocation_some s j t xs u h e =
    ap (λ (v : List ℕ). relocation_in v (record_told (read_row v)) j) (sym (rows_told t (slice_index_or xs s None) (Some u) e)) ∙ relocation_held s j t xs h

pub relocation_none : (s j : ℕ) (t : List ℕ) (xs : List (Option ℕ)) → held t xs ≡ true → None ≡ option_map (λ p. drop p t) (slice_index_or xs s None)
    → None ≡ relocation_of (graph_of t) s j
relocation_none s j t xs h e =
    sym (ap (λ (x : Result Entry Cause). relocation_in [] (record_told x) j) none_read)
    ∙ ap (λ (v : List ℕ). relocation_in v (record_told (read_row v)) j) (sym (rows_told t (slice_index_or xs s None) None e)) ∙ relocation_held s j t xs h

pub root_held : (j : ℕ) (t : List ℕ) (xs : List (Option ℕ)) → held t xs ≡ true → root_in t (roots_told (read_row t)) j ≡ root_of (graph_of t) j
root_held j t xs h =
    ap (λ (k : ℕ). root_in t k j) (roots_held t xs h)
    ∙ by_text (λ t xs. root_in t (root_count_of (graph_of t)) j ≡ root_of (graph_of t) j) (λ xs. no_root j) (λ t f. root_right t f j) t xs h
  where
    no_root : (i : ℕ) → root_in [] 0 i ≡ None
    no_root i = cond-false _ _ _ (le-ltb i 0 (omega arith))

empty_valid : Valid empty
empty_valid =
    record {
      few = omega arith;
      few_roots = omega arith;
      bodies = λ s b e. absurd (let z : ◌≡◌ {A = ℕ} 0 1 = cc in omega arith);
      rooted = tt;
    }

pub valid_held : (t : List ℕ) (xs : List (Option ℕ)) → held t xs ≡ true → Valid (graph_of t)
valid_held t xs h =
    let p = held_parts t xs h in
    ⊎_elim (λ e. subst (λ (u : List ℕ). Valid (graph_of u)) (sym e) empty_valid)
    (λ f. ((verdict_stands t).accepted f).0) (held_cases t p.0)

-- equal bytes have equal rows, and other bytes have others
pub rows_decide_held : (s u : ℕ) (t : List ℕ) (xs : List (Option ℕ)) → held t xs ≡ true
    → Decides (bytes_eq (byte_rows (bytes_of (graph_of t) s)) (byte_rows (bytes_of (graph_of t) u))) (bytes_of (graph_of t) s ≡ bytes_of (graph_of t) u)
rows_decide_held s u t xs h = rows_decide _ _ (small s) (small u)
  where
    small : (v : ℕ) → AllByRecursion (λ b. b < 2 ^ 8) (bytes_of (graph_of t) v)
    small v = go (section_of (graph_of t) v) refl
      where
        go : (o : Option Body) → section_of (graph_of t) v ≡ o → AllByRecursion (λ b. b < 2 ^ 8) (bytes_in o)
        go None e = tt
        go (Some b) e = ((valid_held t xs h).bodies v b e).bytes
