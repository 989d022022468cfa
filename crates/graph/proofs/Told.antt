-- What the questions tell of a section's bytes, and the list of them.
use Rattle.std.proofs.Common.{◌≡◌, ℕ, ◌+◌, ◌<◌, ◌≤◌, length, drop, Some, None, Option, sym, refl, ap, ◌∙◌, subst, arith}
use Rattle.std.specs.List.{slice_get}
use Rattle.std.proofs.lemmas.List.{drop_all}
use Rattle.model.specs.Graph.{Body, told_byte, told_relocation, told_record}
use Rattle.graph.specs.Bytes.{bytes_in, relocations_in, mixed, digest_from, told_size}
use Rattle.graph.proofs.Places.{drop_nth, nth_none, same_from_places}

pub byte_nth : (o : Option Body) (i : ℕ) → told_byte o i ≡ slice_get (bytes_in o) i
byte_nth None i = refl
byte_nth (Some b) i = refl

pub relocation_nth : (o : Option Body) (j : ℕ) → told_relocation o j ≡ slice_get (relocations_in o) j
relocation_nth None j = refl
relocation_nth (Some b) j = refl

pub size_length : (o : Option Body) → told_size (told_record o) ≡ length (bytes_in o)
size_length None = refl
size_length (Some b) = refl

-- the digest, a byte further on, where none is left, and at the end
pub digest_some :
    (o : Option Body) (h i x : ℕ) →
    told_byte o i ≡ Some x →
    digest_from (mixed h x) (drop (i + 1) (bytes_in o)) ≡ digest_from h (drop i (bytes_in o))
digest_some o h i x e = sym (ap (digest_from h) (drop_nth (bytes_in o) i x (sym (byte_nth o i) ∙ e)))

pub digest_none :
    (o : Option Body) (h i : ℕ) → told_byte o i ≡ None → digest_from h (drop (i + 1) (bytes_in o)) ≡ digest_from h (drop i (bytes_in o))
digest_none o h i e =
    let past : length (bytes_in o) ≤ i = nth_none (bytes_in o) i (sym (byte_nth o i) ∙ e) in
    ap (digest_from h) (drop_all (i + 1) (bytes_in o) (omega arith) ∙ sym (drop_all i (bytes_in o) past))

pub digest_end : (o : Option Body) (h i : ℕ) → told_size (told_record o) ≤ i → digest_from h (drop i (bytes_in o)) ≡ h
digest_end o h i e =
    ap (digest_from h) (drop_all i (bytes_in o) (subst (λ (n : ℕ). n ≤ i) (size_length o) e))

-- sections with the same told of their bytes have the same bytes
pub bytes_same :
    (a b : Option Body) (n : ℕ) →
    told_size (told_record a) ≡ n →
    told_size (told_record b) ≡ n →
    ((i : ℕ) → i < n → told_byte a i ≡ told_byte b i) →
    bytes_in a ≡ bytes_in b
bytes_same a b n p q h =
    let m : length (bytes_in a) ≡ n = sym (size_length a) ∙ p in
    same_from_places
    (bytes_in a)
    (bytes_in b)
    (m ∙ (sym q ∙ size_length b))
    (λ i l. sym (byte_nth a i) ∙ (h i (omega arith) ∙ byte_nth b i))
