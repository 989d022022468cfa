-- What a reader holds: no file, or one that was accepted, and its notes.
use Rattle.std.specs.Prelude.{◌≡◌, ℕ, ◌+◌, ◌*◌, ◌^◌, ◌<◌, ◌≤◌, Bool, false, not, ◌||◌, List, length, pos, negsuc, ◌≤ℤ◌, Some, None, Option, ◌==◌, slice_index_or}
use Rattle.elf.specs.declared.Symbol.{Symbol}
use Rattle.elf.specs.declared.Entry.{Entry}
use Rattle.elf.specs.Layout.{outside, entry_at}
use Rattle.rules.specs.Verdict.{accepted}
use Rattle.rules.specs.Rules.{symbol, symbols}

-- no file, or one that meets every rule
abbrev pub held : List ℕ → Bool
held b = length b == 0 || accepted b

-- the marks of sections are there, and section s has none
abbrev pub unlisted : Option (List Bool) → ℕ → Bool
unlisted None s = false
unlisted (Some marks) s = not (slice_index_or marks s false)

-- what is known of an entry and its symbol where the entry is a relocation
pub record Told (y : Symbol) (e : Entry) : Type 0 where
  pub offset : e.offset < 2 ^ 16
  pub symbol : e.symbol < 2 ^ 16
  pub low : negsuc 2147483647 ≤ℤ e.addend
  pub high : e.addend ≤ℤ pos 2147483647
  pub value : outside y.section ≡ false → y.value < 2 ^ 16

-- an entry and its symbol stand in the file, and can be told as a relocation
pub record Ready (b : List ℕ) (q : ℕ) : Type 0 where
  pub ends : q + 24 ≤ length b
  pub symbol_ends : (symbols b).from + 24 * (entry_at b q).symbol + 24 ≤ length b
  pub fits : Told (symbol b (entry_at b q).symbol) (entry_at b q)
