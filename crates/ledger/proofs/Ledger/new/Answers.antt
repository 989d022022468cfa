use Rattle.std.proofs.Common.{false, replicate}
use Rattle.ledger.proofs.Ledger.new.Goals as goal

pub returns : goal.returns
returns c =
    let slots = c.new.ensures in
    let binds = c.new-2.ensures in
    let roots = c.new-3.ensures in
    λ i.
    record {
      slots = slots i;
      pins = replicate 1024 false;
      binds = record { items = binds i };
      roots = record { items = roots i };
      closed = false;
    }
