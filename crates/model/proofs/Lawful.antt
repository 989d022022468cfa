-- The laws of a body, with something else asked of the sections that its relocations name.
use Rattle.std.proofs.Common.{◌≡◌, ℕ, zero, suc, List, [], ◌∷◌, length, Some, refl}
use Rattle.std.specs.List.{slice_get, AllByRecursion}
use Rattle.model.specs.declared.Target.{Target}
use Rattle.model.specs.declared.Target.TheVariants.{Section, Outside}
use Rattle.model.specs.declared.Relocation.{Relocation}
use Rattle.model.specs.Graph.{Body}
use Rattle.model.specs.Laws.{Aimed, LawfulRelocation, LawfulBody}

module _ (A B : ℕ → Type 0) where
  aimed_under : (x : Target) → ((t : ℕ) → x ≡ Section t → A t → B t) → Aimed A x → Aimed B x
  aimed_under (Section t) h a = h t refl a
  aimed_under (Outside e) h a = a

  relocations_under :
      (size : ℕ) (rs : List Relocation) →
      ((j : ℕ) (r : Relocation) (t : ℕ) → slice_get rs j ≡ Some r → r.target ≡ Section t → A t → B t) →
      AllByRecursion (LawfulRelocation A size) rs →
      AllByRecursion (LawfulRelocation B size) rs
  relocations_under size [] h l = tt
  relocations_under size (r ∷ rs) h l = (
    record {
      offset = l.0.offset;
      kind = l.0.kind;
      aimed = aimed_under r.target (λ t. h zero r t refl) l.0.aimed;
      low = l.0.low;
      high = l.0.high;
    },
    relocations_under size rs (λ j. h (suc j)) l.1,
  )

  -- where each section that a relocation names has B if it has A
  pub lawful_under :
      (b : Body) →
      ((j : ℕ) (r : Relocation) (t : ℕ) → slice_get b.relocations j ≡ Some r → r.target ≡ Section t → A t → B t) →
      LawfulBody A b →
      LawfulBody B b
  lawful_under b h l =
      record {
        flags = l.flags;
        alignment = l.alignment;
        size = l.size;
        bytes = l.bytes;
        few = l.few;
        relocations = relocations_under (length b.bytes) b.relocations h l.relocations;
      }
