-- The digest of a section's bytes, column by column.
use Rattle.std.proofs.Common.{◌≡◌, ℕ, ◌+◌, ◌<◌, ◌≤◌, Bool, cond, List, take, drop, Some, None, Option, sym, ap, ◌∙◌, arith}
use Rattle.std.proofs.lemmas.Bool.{lt-ltb, le-ltb}
use Rattle.std.proofs.lemmas.List.{drop_all}
use Rattle.std.specs.List.{slice_get}
use Rattle.column.specs.Columns.{read_column}
use Rattle.graph.specs.Bytes.{mixed, digest_from}
use Rattle.graph.proofs.Places.{drop_nth, nth_none}
use Rattle.table.specs.Places.{byte_place, byte_told, size_in, Tells}

-- the byte in the columns of byte i is the byte of the list
column_told : (u bs : List ℕ) (i : ℕ) → Tells u bs → i < size_in u → byte_told (read_column (take 4 (drop (byte_place i) u))) ≡ slice_get bs i
column_told u bs i h l =
    sym (ap (λ (c : Bool). cond c (byte_told (read_column (take 4 (drop (byte_place i) u)))) None) (lt-ltb i (size_in u) l)) ∙ h i

-- a byte further on, where none is told, and at the end

pub digest_some :
    (u bs : List ℕ) (h i x : ℕ) → Tells u bs → i < size_in u → byte_told (read_column (take 4 (drop (byte_place i) u))) ≡ Some x
    → digest_from (mixed h x) (drop (i + 1) bs) ≡ digest_from h (drop i bs)
digest_some u bs h i x t l e = sym (ap (digest_from h) (drop_nth bs i x (sym (column_told u bs i t l) ∙ e)))

past : (bs : List ℕ) (h i : ℕ) → slice_get bs i ≡ None → digest_from h (drop i bs) ≡ h
past bs h i e = ap (digest_from h) (drop_all i bs (nth_none bs i e))

pub digest_none :
    (u bs : List ℕ) (h i : ℕ) → Tells u bs → i < size_in u → byte_told (read_column (take 4 (drop (byte_place i) u))) ≡ None
    → digest_from h (drop (i + 1) bs) ≡ digest_from h (drop i bs)
digest_none u bs h i t l e =
    let none : slice_get bs i ≡ None = sym (column_told u bs i t l) ∙ e in
    ap (digest_from h) (drop_all (i + 1) bs (omega (arith, nth_none bs i none))) ∙ sym (past bs h i none)

pub digest_end : (u bs : List ℕ) (h i : ℕ) → Tells u bs → size_in u ≤ i → digest_from h (drop i bs) ≡ h
digest_end u bs h i t l =
    past bs h i
    (sym (t i) ∙ ap (λ (c : Bool). cond c (byte_told (read_column (take 4 (drop (byte_place i) u)))) None) (le-ltb i (size_in u) l))
