-- A field further on is the field that the rest of the bytes begins with: the law of each impl of `Field`.
use Rattle.std.specs.Prelude.{◌≡◌, ℕ, ◌+◌, List, drop}
use Rattle.std.specs.Int.{cast_signed, w64}
use Rattle.std.proofs.Common.{ap, ◌∙◌, add_assoc, add-zero}
use Rattle.std.proofs.lemmas.List.{get_or-drop}
use Rattle.field.specs.Fields.{half, word, long, signed}

half_on : (b : List ℕ) (p i : ℕ) → half (drop p b) i ≡ half b (p + i)
unfolding half
half_on b p i = simp (get_or-drop, add_assoc)

word_on : (b : List ℕ) (p i : ℕ) → word (drop p b) i ≡ word b (p + i)
unfolding word
word_on b p i = simp (half_on, add_assoc)

pub half-drop : (b : List ℕ) (p : ℕ) → half (drop p b) 0 ≡ half b p
half-drop b p = half_on b p 0 ∙ ap (half b) (add-zero p)

pub word-drop : (b : List ℕ) (p : ℕ) → word (drop p b) 0 ≡ word b p
word-drop b p = word_on b p 0 ∙ ap (word b) (add-zero p)

pub long-drop : (b : List ℕ) (p : ℕ) → long (drop p b) 0 ≡ long b p
unfolding long
long-drop b p = simp (word_on, add-zero)

pub signed-drop : (b : List ℕ) (p : ℕ) → signed (drop p b) 0 ≡ signed b p
signed-drop b p = ap (cast_signed w64) (long-drop b p)
