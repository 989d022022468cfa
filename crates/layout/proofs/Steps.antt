-- A B row counts as many bytes as it has values.
use Rattle.std.proofs.Common.{◌≡◌, ℕ, min, cond, eqb, List, Some, None, sym, ap}
use Rattle.row.specs.Entry.{bytes}
use Rattle.row.specs.Told.{byte_values}
use Rattle.row.proofs.Rows.{length_values}
use Rattle.layout.specs.declared.Due.{Due}
use Rattle.layout.specs.declared.State.TheVariants.{Open}
use Rattle.layout.specs.Order.{step_open, after_bytes}

pub bytes_step : (d : Due) (n : ℕ) (t : List ℕ)
    → cond (eqb n (min 16 d.bytes)) (Some (Open (after_bytes d n))) None ≡ step_open d (bytes (byte_values n t))
bytes_step d n t =
    ap (λ (k : ℕ). cond (eqb k (min 16 d.bytes)) (Some (Open (after_bytes d k))) None) (sym (length_values n (lib.ListN.drop 1 t)))
