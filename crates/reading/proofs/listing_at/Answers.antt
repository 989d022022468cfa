use Rattle.std.proofs.Common.{◌≡◌, ℕ, ◌+◌, ◌-◌, List, ap, ◌∙◌, arith}
use Rattle.elf.specs.declared.Header.{Header}
use Rattle.reading.proofs.Ending.{listing_read}
use Rattle.reading.proofs.listing_at.Goals as goal

pub returns : goal.returns
returns c =
    let b = c.args.tables.headers.bytes.now
    in let h = c.section-h.result
    in let size : (h.offset + h.size) - h.offset ≡ h.size = omega arith
    in c.listing.ensures
    ∙ (ap (λ (x : List ℕ). listing_read x b h.offset ((h.offset + h.size) - h.offset)) c.args.tables.same
    ∙ (ap (listing_read b b h.offset) size ∙ ap (λ (x : Header). listing_read b b x.offset x.size) c.section-h.ensures))
