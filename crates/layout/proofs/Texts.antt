-- Texts and their rows: what is accepted, what is read, and where a text is refused.
use Rattle.std.proofs.Common.{◌≡◌, ℕ, zero, suc, ◌+◌, ◌<◌, ◌≤◌, Bool, true, false, cond, List, [], ◌∷◌, ◌++◌, map, length, get_or, take, drop, Some, None, Ok, Err, Option, Result, sym, refl, ap, ◌∙◌, subst, zero-add, arith}
use Rattle.std.specs.Option.{option_map, option_or}
use Rattle.std.specs.List.{flat_map, concat, AllByRecursion}
use Rattle.std.proofs.lemmas.List.{append-nil, length-append}
use Rattle.fault.specs.declared.Fault.{Fault}
use Rattle.column.specs.Columns.{columns}
use Rattle.model.specs.Graph.{Graph}
use Rattle.model.specs.Laws.{Valid}
use Rattle.lines.specs.Lines.{lines, row_start, verdict, after, later}
use Rattle.lines.proofs.Rows.{whole_lines, lines_row, OneRow, one_lines, one_row_ends}
use Rattle.lines.proofs.Verdicts.{not_before}
use Rattle.row.specs.declared.Cause.{Cause}
use Rattle.row.specs.Entry.{Entry, letter, width, numbers, render, Ranged}
use Rattle.row.specs.Reading.{read_row}
use Rattle.row.proofs.Rows.{row_reads, row_only, render_plain}
use Rattle.layout.specs.declared.State.{State}
use Rattle.layout.specs.declared.State.TheVariants.{Start}
use Rattle.layout.specs.Layout.{entries, text_of, Formed}
use Rattle.layout.specs.Order.{step, is_done, run, run_on, graph_in}
use Rattle.layout.specs.Reading.{step_read, step_line, bad_row, kept, entries_in, graph_of, named, absent_in, dangles, dangling_from, bad_row_at, dangling_at, fault_of}
use Rattle.layout.specs.Verdict.{Verdict, ToldApart}
use Rattle.layout.proofs.Accepts.{accepts}
use Rattle.layout.proofs.Only.{only}
use Rattle.layout.proofs.Back.{back}
use Rattle.layout.proofs.Ranges.{ranged_entries}
use Rattle.layout.proofs.Aims.{Aims, valid_from_aims, formed_from_valid, aims_from_valid}

-- one row

pub row_itself : (e : Entry) → Ranged e → read_row (render e) ≡ Ok e
row_itself e r = ap read_row (sym (append-nil (render e))) ∙ row_reads e r []

pub lines_render : (e : Entry) → Ranged e → (t : List ℕ) → lines (render e ++ t) ≡ render e ∷ lines t
lines_render e r t = lines_row (letter e ∷ columns (width e) (numbers e)) t (render_plain e r)

pub line_exact : (l : List ℕ) (e : Entry) → OneRow l → read_row l ≡ Ok e → l ≡ render e
line_exact l e o h =
    let p = row_only l e h in
    let rest : drop (length (render e)) l ≡ [] = one_row_ends (letter e ∷ columns (width e) (numbers e)) _ (subst OneRow p.1 o) in
    p.1 ∙ ap (λ (xs : List ℕ). render e ++ xs) rest ∙ append-nil (render e)

-- the rows of some entries

pub lines_text : (es : List Entry) → AllByRecursion Ranged es → lines (flat_map render es) ≡ map render es
lines_text [] r = refl
lines_text (e ∷ es) r = lines_render e r.0 (flat_map render es) ∙ ap (λ (ls : List (List ℕ)). render e ∷ ls) (lines_text es r.1)

entries_back : (es : List Entry) → AllByRecursion Ranged es → entries_in (map render es) ≡ es
entries_back [] r = refl
entries_back (e ∷ es) r =
    ap (λ (x : Result Entry Cause). kept x (entries_in (map render es))) (row_itself e r.0) ∙ ap (λ (xs : List Entry). e ∷ xs) (entries_back es r.1)

rows_taken : (es : List Entry) (q : State) → AllByRecursion Ranged es → run es q ≡ true → verdict step_line is_done (map render es) q ≡ None
rows_taken [] q r h = ap (λ (b : Bool). cond b None (Some 0)) h
rows_taken (e ∷ es) q r h =
    ap (λ (x : Result Entry Cause). after (verdict step_line is_done (map render es)) (step_read q x)) (row_itself e r.0)
    ∙ go (step q e) h (λ p k. rows_taken es p r.1 k)
  where
    go : (o : Option State) → run_on (run es) o ≡ true → ((p : State) → run es p ≡ true → verdict step_line is_done (map render es) p ≡ None)
        → after (verdict step_line is_done (map render es)) o ≡ None
    go None k deeper = absurd (let z : ◌≡◌ {A = ℕ} 0 1 = cc in omega arith)
    go (Some p) k deeper = ap later (deeper p k)

-- rows that are taken

record Taken (ls : List (List ℕ)) (q : State) : Type 0 where
  runs : run (entries_in ls) q ≡ true
  ranged : AllByRecursion Ranged (entries_in ls)
  rows : ls ≡ map render (entries_in ls)

taken : (ls : List (List ℕ)) (q : State) → AllByRecursion OneRow ls → verdict step_line is_done ls q ≡ None → Taken ls q
taken [] q o h = record { runs = ends (is_done q) h; ranged = tt; rows = refl }
  where
    ends : (b : Bool) → ◌≡◌ {A = Option ℕ} (cond b None (Some 0)) None → b ≡ true
    ends true e = refl
    ends false e = absurd (let z : ◌≡◌ {A = ℕ} 0 1 = cc in omega arith)
taken (l ∷ ls) q o h = go (read_row l) refl h (λ p k. taken ls p o.1 k)
  where
    behind : (v : Option ℕ) → later v ≡ None → v ≡ None
    behind None e = refl
    behind (Some k) e = absurd (let z : ◌≡◌ {A = ℕ} 0 1 = cc in omega arith)

    on : (e : Entry) (p : Option State) → step q e ≡ p → read_row l ≡ Ok e → after (verdict step_line is_done ls) p ≡ None
        → ((p : State) → verdict step_line is_done ls p ≡ None → Taken ls p) → Taken (l ∷ ls) q
    on e None m x k deeper = absurd (let z : ◌≡◌ {A = ℕ} 0 1 = cc in omega arith)
    on e (Some p) m x k deeper =
        let t = deeper p (behind _ k) in
        let here : entries_in (l ∷ ls) ≡ e ∷ entries_in ls = ap (λ (y : Result Entry Cause). kept y (entries_in ls)) x in
        let range : Ranged e = (row_only l e x).0 in
        record {
          runs = ap (λ (es : List Entry). run es q) here ∙ ap (run_on (run (entries_in ls))) m ∙ t.runs;
          ranged = subst (AllByRecursion Ranged) (sym here) (range, t.ranged);
          rows =
              ap (λ (y : List ℕ). y ∷ ls) (line_exact l e o.0 x)
              ∙ ap (λ (ys : List (List ℕ)). render e ∷ ys) t.rows
              ∙ ap (map render) (sym here);
        }

    go : (x : Result Entry Cause) → read_row l ≡ x → after (verdict step_line is_done ls) (step_read q x) ≡ None
        → ((p : State) → verdict step_line is_done ls p ≡ None → Taken ls p) → Taken (l ∷ ls) q
    go (Ok e) x k deeper = on e (step q e) refl x k deeper
    go (Err c) x k deeper = absurd (let z : ◌≡◌ {A = ℕ} 0 1 = cc in omega arith)

whole_map : (es : List Entry) → concat (map render es) ≡ flat_map render es
whole_map [] = refl
whole_map (e ∷ es) = ap (λ (xs : List ℕ). render e ++ xs) (whole_map es)

-- a text whose rows form is the table of the graph that it tells
pub formed_text : (t : List ℕ) → bad_row t ≡ None → (t ≡ text_of (graph_of t)) × (Formed (graph_of t) × (entries_in (lines t) ≡ entries (graph_of t)))
formed_text t h =
    let k = taken (lines t) Start (one_lines t) h in
    let p = only (entries_in (lines t)) k.ranged k.runs in
    (sym (whole_lines t) ∙ ap concat k.rows ∙ whole_map (entries_in (lines t)) ∙ ap (flat_map render) p.0, (p.1, p.0))

pub formed_table : (g : Graph) → Formed g → (bad_row (text_of g) ≡ None) × ((graph_of (text_of g) ≡ g) × (entries_in (lines (text_of g)) ≡ entries g))
formed_table g v =
    let r = ranged_entries g v in
    let rows = lines_text (entries g) r in
    let told : entries_in (lines (text_of g)) ≡ entries g = ap entries_in rows ∙ entries_back (entries g) r in (
      ap (λ (ls : List (List ℕ)). verdict step_line is_done ls Start) rows ∙ rows_taken (entries g) Start r (accepts g v),
      (ap graph_in told ∙ back g, told),
    )

-- rows that name an absent section

aims_of : (g : Graph) (at : ℕ) (ls : List (List ℕ)) → dangling_from g at ls ≡ None → AllByRecursion (Aims g) (entries_in ls)
aims_of g at [] h = tt
aims_of g at (l ∷ ls) h = go (read_row l) h (λ k. aims_of g (at + length l) ls k)
  where
    split : (b : Bool) → cond b (Some at) (dangling_from g (at + length l) ls) ≡ None → (b ≡ false) × (dangling_from g (at + length l) ls ≡ None)
    split true e = absurd (let z : ◌≡◌ {A = ℕ} 0 1 = cc in omega arith)
    split false e = (refl, e)

    go : (x : Result Entry Cause) → cond (dangles g x) (Some at) (dangling_from g (at + length l) ls) ≡ None
        → (dangling_from g (at + length l) ls ≡ None → AllByRecursion (Aims g) (entries_in ls)) → AllByRecursion (Aims g) (kept x (entries_in ls))
    go (Ok e) k deeper = let p = split (absent_in g (named e)) k in (p.0, deeper p.1)
    go (Err c) k deeper = deeper k

none_dangles : (g : Graph) (at : ℕ) (ls : List (List ℕ)) → AllByRecursion (Aims g) (entries_in ls) → dangling_from g at ls ≡ None
none_dangles g at [] h = refl
none_dangles g at (l ∷ ls) h = go (read_row l) h (λ k. none_dangles g (at + length l) ls k)
  where
    go : (x : Result Entry Cause) → AllByRecursion (Aims g) (kept x (entries_in ls)) → (AllByRecursion (Aims g) (entries_in ls) → dangling_from g (at + length l) ls ≡ None)
        → cond (dangles g x) (Some at) (dangling_from g (at + length l) ls) ≡ None
    go (Ok e) k deeper = ap (λ (b : Bool). cond b (Some at) (dangling_from g (at + length l) ls)) k.0 ∙ deeper k.1
    go (Err c) k deeper = deeper k

-- the place of the first row that names an absent section
first_dangling : (g : Graph) (at : ℕ) (ls : List (List ℕ)) (p : ℕ) → dangling_from g at ls ≡ Some p
    → (k : ℕ) × (p ≡ at + row_start ls k) × (dangles g (read_row (get_or ls k [])) ≡ true) × ((j : ℕ) → j < k → dangles g (read_row (get_or ls j [])) ≡ false)
first_dangling g at [] p h = absurd (let z : ◌≡◌ {A = ℕ} 0 1 = cc in omega arith)
first_dangling g at (l ∷ ls) p h = go (dangles g (read_row l)) refl h (λ k. first_dangling g (at + length l) ls p k)
  where
    go : (b : Bool) → dangles g (read_row l) ≡ b → cond b (Some at) (dangling_from g (at + length l) ls) ≡ Some p
        → (dangling_from g (at + length l) ls ≡ Some p
        → (k : ℕ) × (p ≡ (at + length l) + row_start ls k) × (dangles g (read_row (get_or ls k [])) ≡ true) × ((j : ℕ) → j < k → dangles g (read_row (get_or ls j [])) ≡ false))
        → (k : ℕ) × (p ≡ at + row_start (l ∷ ls) k) × (dangles g (read_row (get_or (l ∷ ls) k [])) ≡ true) × ((j : ℕ) → j < k → dangles g (read_row (get_or (l ∷ ls) j [])) ≡ false)
    go true e k deeper = (0, (let same : at ≡ p = cc in omega arith), e, λ j m. absurd (omega arith))
    go false e k deeper =
        let d = deeper k in (
          suc d.0,
          d.1 ∙ omega (arith, length-append l (concat (take d.0 ls))),
          d.2,
          elim [ zero ↦ (λ m. e) | suc j ↦ (λ m. d.3 j (omega arith)) ],
        )

-- the verdict

no_fault : (a b : Option Fault) → option_or a b ≡ None → (a ≡ None) × (b ≡ None)
no_fault None b h = (refl, h)
no_fault (Some f) b h = absurd (let z : ◌≡◌ {A = ℕ} 0 1 = cc in omega arith)

unmapped : (f : ℕ → Fault) (o : Option ℕ) → option_map f o ≡ None → o ≡ None
unmapped f None h = refl
unmapped f (Some k) h = absurd (let z : ◌≡◌ {A = ℕ} 0 1 = cc in omega arith)

dangling_place : (o : Option ℕ) (p : ℕ) → option_map dangling_at o ≡ Some (dangling_at p) → o ≡ Some p
dangling_place None p h = absurd (let z : ◌≡◌ {A = ℕ} 0 1 = cc in omega arith)
dangling_place (Some k) p h = let same : dangling_at k ≡ dangling_at p = cc in ap (λ (f : Fault). Some f.place) same

accepted : (t : List ℕ) → fault_of t ≡ None → Valid (graph_of t) × (t ≡ text_of (graph_of t))
accepted t h =
    let p = no_fault _ _ h in
    let f = formed_text t (unmapped _ (bad_row t) p.0) in
    let a = aims_of (graph_of t) 0 (lines t) (unmapped _ _ p.1) in
    (valid_from_aims (graph_of t) f.1.0 (subst (AllByRecursion (Aims (graph_of t))) f.1.1 a), f.0)

table : (t : List ℕ) (g : Graph) → Valid g → t ≡ text_of g → (fault_of t ≡ None) × (graph_of t ≡ g)
table t g v e =
    let f = formed_table g (formed_from_valid g v) in
    let same : graph_of t ≡ g = ap graph_of e ∙ f.1.0 in
    let rows : entries_in (lines t) ≡ entries g = ap (λ (u : List ℕ). entries_in (lines u)) e ∙ f.1.1 in
    let none : bad_row t ≡ None = ap bad_row e ∙ f.0 in
    let aims : AllByRecursion (Aims (graph_of t)) (entries_in (lines t)) =
    subst (λ (h : Graph). AllByRecursion (Aims h) (entries_in (lines t))) (sym same) (subst (AllByRecursion (Aims g)) (sym rows) (aims_from_valid g v)) in (
      ap (λ (o : Option ℕ). option_or (option_map (λ k. bad_row_at (row_start (lines t) k)) o) (option_map dangling_at (dangling_from (graph_of t) 0 (lines t)))) none
          ∙ ap (option_map dangling_at) (none_dangles (graph_of t) 0 (lines t) aims),
      same,
    )

pub verdict_stands : (t : List ℕ) → Verdict t
verdict_stands t =
    record {
      accepted = accepted t;
      table = table t;
      bad = λ k r g v e. let low : suc k ≤ k = not_before step_line is_done (suc k) (lines t) (lines (text_of g)) Start k e (formed_table g v).0 r in omega arith;
      not_before = λ j k g v e r. not_before step_line is_done j (lines t) (lines (text_of g)) Start k e (formed_table g v).0 r;
      dangling = λ p none h.
          let d : dangling_from (graph_of t) 0 (lines t) ≡ Some p =
          dangling_place _ p (ap (λ (o : Option ℕ). option_or (option_map (λ k. bad_row_at (row_start (lines t) k)) o) (option_map dangling_at (dangling_from (graph_of t) 0 (lines t)))) (sym none) ∙ h) in
          let f = first_dangling (graph_of t) 0 (lines t) p d in
          (f.0, f.1 ∙ zero-add _, f.2, f.3);
    }

pub told_apart : ToldApart
told_apart g h v w e = sym (formed_table g (formed_from_valid g v)).1.0 ∙ ap graph_of e ∙ (formed_table h (formed_from_valid h w)).1.0
