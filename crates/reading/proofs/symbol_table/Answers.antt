use Rattle.std.proofs.Common.{sym, ◌∙◌, arith}
use Rattle.reading.proofs.Firsts.{only_is, extent_is}
use Rattle.reading.proofs.symbol_table.Goals as goal

pub symbols_at-requires : goal.symbols_at-requires
symbols_at-requires c =
    let b = c.args.headers.bytes.now
    in let at = only_is 2 b c.in-Some.t (sym c.in-Some.is ∙ c.requires.found)
    in record {
      below = omega (arith, at.0, c.args.headers.headed.count_right);
      inside = extent_is b c.in-Some.t at.0 (λ e. omega (arith, at.1)) (λ e. omega (arith, at.1)) c.requires.extents;
    }
