-- What is read from a text that begins with a row: the row, or which part of it is bad.
use Rattle.std.specs.Prelude.{ℕ, zero, suc, ◌+◌, cond, List, [], ◌∷◌, length, Ok, Err, Result, ◌==◌, slice_index}
use Rattle.model.specs.declared.Setting.{Setting}
use Rattle.model.specs.declared.Setting.TheVariants.{Foldable, Pinned}
use Rattle.model.specs.declared.Target.{Target}
use Rattle.model.specs.declared.Target.TheVariants.{Section, Outside}
use Rattle.model.specs.declared.Relocation.{Relocation}
use Rattle.model.specs.declared.Record.{Record}
use Rattle.row_part.specs.declared.Cause.{Cause}
use Rattle.row_part.specs.declared.Cause.TheVariants.{Letter}
use Rattle.row_part.specs.Parts.{and_then, natural_at, alignment_at, displacement_at, end_at}
use Rattle.row.specs.Entry.{Entry, header, section, bytes, relocation, root, end}

abbrev pub setting_of : ℕ → Setting
setting_of zero = Foldable
setting_of (suc k) = Pinned

abbrev pub target_of : ℕ → ℕ → Target
target_of zero t = Section t
target_of (suc k) t = Outside t

-- the columns of each kind of row, from the left, and its end

abbrev pub read_header : List ℕ → Result Entry Cause
read_header t =
    and_then (natural_at 12 t 1 1024) λ n. and_then (natural_at 12 t 13 4096) λ k. and_then (end_at t 25) λ _. Ok (header n k)

abbrev pub record_at : List ℕ → Result Record Cause
record_at t =
    and_then (natural_at 12 t 13 4294967295) λ f.
    and_then (alignment_at t 25) λ a.
    and_then (natural_at 12 t 37 65535) λ n.
    and_then (natural_at 12 t 49 65535) λ k.
    and_then (natural_at 12 t 61 1) λ p.
    Ok (record { flags = f; alignment = a; size = n; relocations = k; setting = setting_of p })

abbrev pub read_section : List ℕ → Result Entry Cause
read_section t =
    and_then (natural_at 12 t 1 1023) λ s. and_then (record_at t) λ r. and_then (end_at t 73) λ _. Ok (section s r)

-- the further bytes of a B row, from `at` on, where at most `left` may come
unfoldable pub more_bytes : ℕ → List ℕ → ℕ → Result (List ℕ) Cause
more_bytes zero t at = and_then (end_at t at) λ _. Ok []
more_bytes (suc left) t at =
    cond (slice_index t at == 10) (Ok []) (and_then (natural_at 4 t at 255) λ b. and_then (more_bytes left t (at + 4)) λ bs. Ok (b ∷ bs))

abbrev pub row_bytes : List ℕ → Result (List ℕ) Cause
row_bytes t = and_then (natural_at 4 t 1 255) λ b. and_then (more_bytes 15 t 5) λ bs. Ok (b ∷ bs)

abbrev pub counted : Result (List ℕ) Cause → Result ℕ Cause
counted (Ok bs) = Ok (length bs)
counted (Err e) = Err e

abbrev pub read_bytes : List ℕ → Result Entry Cause
read_bytes t = and_then (row_bytes t) λ bs. Ok (bytes bs)

abbrev pub target_at : List ℕ → Result Target Cause
target_at t = and_then (natural_at 12 t 25 1) λ k. and_then (natural_at 12 t 37 65535) λ n. Ok (target_of k n)

abbrev pub relocation_at : List ℕ → Result Relocation Cause
relocation_at t =
    and_then (natural_at 12 t 1 65534) λ o.
    and_then (natural_at 12 t 13 4294967295) λ k.
    and_then (target_at t) λ target.
    and_then (displacement_at t 49 target) λ d.
    Ok (record { offset = o; kind = k; target = target; displacement = d })

abbrev pub read_relocation : List ℕ → Result Entry Cause
read_relocation t = and_then (relocation_at t) λ r. and_then (end_at t 61) λ _. Ok (relocation r)

abbrev pub read_root : List ℕ → Result Entry Cause
read_root t = and_then (natural_at 12 t 1 65535) λ s. and_then (end_at t 13) λ _. Ok (root s)

abbrev pub read_end : List ℕ → Result Entry Cause
read_end t = and_then (natural_at 12 t 1 1024) λ k. and_then (end_at t 13) λ _. Ok (end k)

abbrev pub read_by : ℕ → List ℕ → Result Entry Cause
read_by c t =
    cond (c == 72) (read_header t)
    (cond (c == 83) (read_section t)
    (cond (c == 66) (read_bytes t)
    (cond (c == 82) (read_relocation t)
    (cond (c == 84) (read_root t)
    (cond (c == 69) (read_end t) (Err Letter))))))

-- the row that the text begins with, whatever follows it
unfoldable pub read_row : List ℕ → Result Entry Cause
read_row t = read_by (slice_index t 0) t
