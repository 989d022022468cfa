-- The answers to the questions, from what is read and noted.
use Rattle.std.proofs.Common.{slice_index_or, IfSome, ◌≡◌, ℕ, ◌+◌, zero, suc, ◌*◌, ◌/◌, ◌%◌, ◌<◌, ◌≤◌, max, Bool, true, false, cond, not, ◌&&◌, ◌==◌, leb, List, [], ◌∷◌, map, length, get_or, take, drop, replicate, is_some, Some, None, Ok, Err, Option, sym, refl, ap, ◌∙◌, subst, arith}
use Rattle.std.specs.List.{slice_get, range_with_len}
use Rattle.std.specs.Result.{result_unwrap_or}
use Rattle.std.proofs.lemmas.Bool.{ne_eqb, eqb-true, eqb-false, le-leb, leb-false}
use Rattle.std.proofs.lemmas.List.{get_or-drop, take-replicate}
use Rattle.std.proofs.lemmas.List.FromFn.{get_or-map-range_with_len, length-map-range_with_len}
use Rattle.std.proofs.lemmas.Option.{slice_get-get_or, slice_get_past}
use Rattle.model.specs.declared.Setting.TheVariants.{Foldable, Pinned}
use Rattle.graph.specs.Bytes.{bytes_in, bytes_of as section_bytes}
use Rattle.model.specs.Graph.{Graph, Body, section_of, count_of, told_record, record_of, told_byte, byte_of, told_relocation, relocation_of}
use Rattle.elf.specs.declared.Header.{Header}
use Rattle.elf.specs.Layout.{sections, section, present, plain, entry_at}
use Rattle.rules.specs.Rules.{part, symbol}
use Rattle.rules.specs.Listing.{significance, listed}
use Rattle.rules.specs.Notes.{part_note, listed_in, marks_of, Noted}
use Rattle.rules.specs.Listing.{listing}
use Rattle.rules.specs.declared.Notes.{Notes}
use Rattle.object.specs.Meaning.{flags_of, alignment_of, low, bytes_of, relocation_at, relocations_in, setting_of, body, told_section, meaning}
use Rattle.object.specs.Held.{held, unlisted}
use Rattle.field.specs.Fields.{half, within, short}
use Rattle.elf.specs.Layout.{place}
use Rattle.rules.specs.Rules.{relocates}
use Rattle.reading.proofs.Firsts.{first_where_is}
use Rattle.object.specs.Facts.{Facts, held_facts, held_few, held_short, header_ends, sound, bytes_length, Whole, whole, entered, tables, value_within, inside, Seen, PartSeen}
use Rattle.object.specs.Held.{Ready}
use Rattle.object.specs.Lawful.{aligned_small, section_at, range_low, range_high}

-- how many sections there are
pub count_told : (b : List ℕ) → count_of (meaning b) ≡ sections b
count_told b = length-map-range_with_len (told_section b) 0 (sections b)

-- a section that is no part of the graph is absent
pub shown_absent : (b : List ℕ) (s : ℕ) → s < sections b → present (section b s) ≡ false → section_of (meaning b) s ≡ None
shown_absent b s l q = section_at b s l ∙ ap (λ (t : Bool). cond t (Some (body b s)) None) q

pub shown_seen : (b : List ℕ) (s : ℕ) (h : Header) → held b ≡ true → s < sections b → h ≡ section b s → present h ≡ true → Seen b s h
shown_seen b s h w l e q =
    let p : present (section b s) ≡ true = ap present (sym e) ∙ q
    in let k = sound b s (held_facts b s w l) l p
    in let few = held_few b w
    in record {
      below = l;
      few = omega arith;
      header = e;
      sound = rw e k;
      aligned = aligned_small h.alignment (rw e k.alignment);
      body = section_at b s l ∙ ap (λ (t : Bool). cond t (Some (body b s)) None) p;
    }

-- what is noted
pub part_noted : (b : List ℕ) (x : Notes) (s : ℕ) → Noted b x → s < 1024 → get_or x.parts s None ≡ part b s (sections b)
part_noted b x s w l = ap (λ (xs : List (Option ℕ)). get_or xs s None) w.parts_right ∙ get_or-map-range_with_len (part_note b (sections b)) 0 1024 s s None l (omega arith)

listed_noted : (b : List ℕ) (x : Notes) (s : ℕ) → Noted b x → s < 1024 → unlisted x.listed s ≡ (is_some (significance b) && not (listed b s))
listed_noted b x s w l = ap (λ (o : Option (List Bool)). unlisted o s) w.listed_right ∙ go (significance b)
  where
    go : (o : Option ℕ) → unlisted (marks_of b o) s ≡ (is_some o && not (listed b s))
    go None = refl
    go (Some a) = ap not (get_or-map-range_with_len (listed_in b (listing b)) 0 1024 s s false l (omega arith))

-- the bytes of a section
bytes_seen : (b : List ℕ) (s : ℕ) (h : Header) → Seen b s h → section_bytes (meaning b) s ≡ bytes_of b h
bytes_seen b s h w = ap bytes_in w.body ∙ ap (bytes_of b) (sym w.header)

pub zeros_are : (b : List ℕ) (s : ℕ) (h : Header) → Seen b s h → h.kind ≡ 8 → replicate h.size 0 ≡ section_bytes (meaning b) s
zeros_are b s h w k =
    let eight : (h.kind == 8) ≡ true = ap (λ (x : ℕ). x == 8) k
    in sym (bytes_seen b s h w ∙ ap (λ (t : Bool). cond t (replicate h.size 0) (map low (take h.size (drop h.offset b)))) eight)

pub slice_is : (b : List ℕ) (s : ℕ) (h : Header) → Seen b s h → (h.kind ≡ 8 → ⊥) → map low (take h.size (drop h.offset b)) ≡ section_bytes (meaning b) s
slice_is b s h w k =
    sym (bytes_seen b s h w ∙ ap (λ (t : Bool). cond t (replicate h.size 0) (map low (take h.size (drop h.offset b)))) (ne_eqb h.kind 8 k))

pub zeros_taken : (n m : ℕ) → n ≤ m → take n (replicate {A = ℕ} m 0) ≡ replicate {A = ℕ} n 0
zeros_taken n m l = take-replicate {X = ℕ} n m 0 l

-- bytes are what they are
low_same : (xs : List ℕ) → ((k : ℕ) → get_or xs k 0 < 256) → map low xs ≡ xs
low_same [] h = refl
low_same (x ∷ xs) h =
    let here : x % 256 ≡ x = omega (arith, h 0)
    in let rest : map low xs ≡ xs = low_same xs (λ k. h (suc k))
    in cc

low_taken : (n : ℕ) (xs : List ℕ) → ((k : ℕ) → get_or xs k 0 < 256) → (k : ℕ) → get_or (take n xs) k 0 < 256
low_taken zero xs h k = omega arith
low_taken (suc n) [] h k = omega arith
low_taken (suc n) (x ∷ xs) h zero = h 0
low_taken (suc n) (x ∷ xs) h (suc k) = low_taken n xs (λ j. h (suc j)) k

pub slice_low : (b : List ℕ) (from size : ℕ) → ((k : ℕ) → get_or b k 0 < 256) → take size (drop from b) ≡ map low (take size (drop from b))
slice_low b from size h =
    sym (low_same (take size (drop from b)) (low_taken size (drop from b) (λ k. subst (λ (x : ℕ). x < 256) (sym (get_or-drop from b k 0)) (h (from + k)))))

-- an absent section has no bytes
pub bytes_absent : (g : Graph) (s : ℕ) → section_of g s ≡ None → [] ≡ section_bytes g s
bytes_absent g s e = sym (ap bytes_in e)

-- a byte of a section is one of its bytes
pub byte_among : (g : Graph) (s i : ℕ) → slice_get (section_bytes g s) i ≡ byte_of g s i
byte_among g s i = go (section_of g s)
  where
    go : (o : Option Body) → slice_get (bytes_in o) i ≡ told_byte o i
    go None = refl
    go (Some x) = refl

-- what ends within the bytes is read
pub part_read : {A : Type 0} (b : List ℕ) (p size : ℕ) (y : A) → p + size ≤ length b → within b p size y ≡ Ok y
part_read b p size y l = ap (λ (t : Bool). cond t (Ok y) (Err (short b))) (le-leb (p + size) (length b) l)

-- the header of a section is there
pub header_read : (b : List ℕ) (s : ℕ) → held b ≡ true → s < sections b → within b (place b s) 64 (section b s) ≡ Ok (section b s)
header_read b s h l = part_read b (place b s) 64 (section b s) (header_ends b s (held_facts b s h l) l)

-- how many sections there are: none where there is no file
pub count_read : (b : List ℕ) → held b ≡ true → result_unwrap_or (within b 60 2 (half b 60)) 0 ≡ sections b
count_read b h = go (leb 62 (length b)) refl
  where
    go : (t : Bool) → leb 62 (length b) ≡ t → result_unwrap_or (cond t (Ok (half b 60)) (Err (short b))) 0 ≡ sections b
    go true q = refl
    go false q = held_short b h (leb-false 62 (length b) q)

-- the section with the relocations is one of the sections
pub part_below : (b : List ℕ) (x : Notes) (s : ℕ) → Noted b x → s < 1024 → IfSome (slice_index_or x.parts s None) (λ r. r < sections b)
part_below b x s w l = subst (λ (o : Option ℕ). IfSome o (λ r. r < sections b)) (sym (part_noted b x s w l)) (go (part b s (sections b)) refl)
  where
    go : (o : Option ℕ) → part b s (sections b) ≡ o → IfSome o (λ r. r < sections b)
    go None e = tt
    go (Some r) e = (first_where_is (relocates b s) (sections b) r e).0

pub part_seen : (b : List ℕ) (s r : ℕ) → held b ≡ true → s < sections b → part b s (sections b) ≡ Some r → PartSeen b s (section b r)
part_seen b s r h l q =
    let w = whole b s r (held_facts b s h l) q
    in record { number = r; is_part = q; header = refl; few = w.few; ends = w.ends; whole = w }

-- how many relocations a section has
pub count_seen : (b : List ℕ) (s : ℕ) (p : Header) → PartSeen b s p → p.size / 24 ≡ length (relocations_in b (part b s (sections b)))
count_seen b s p q =
    ap (λ (x : Header). x.size / 24) q.header
    ∙ (sym (length-map-range_with_len (relocation_at b (section b q.number).offset) 0 ((section b q.number).size / 24))
    ∙ ap (λ (o : Option ℕ). length (relocations_in b o)) (sym q.is_part))

-- relocation j of a section
relocation_in : (b : List ℕ) (s j : ℕ) (h p : Header) → Seen b s h → PartSeen b s p
    → relocation_of (meaning b) s j ≡ slice_get (map (relocation_at b p.offset) (range_with_len 0 (p.size / 24))) j
relocation_in b s j h p w q =
    ap (λ (o : Option Body). told_relocation o j) w.body
    ∙ (ap (λ (o : Option ℕ). slice_get (relocations_in b o) j) q.is_part
    ∙ ap (λ (x : Header). slice_get (map (relocation_at b x.offset) (range_with_len 0 (x.size / 24))) j) (sym q.header))

pub relocation_some : (b : List ℕ) (s j : ℕ) (h p : Header) → Seen b s h → PartSeen b s p → j < p.size / 24
    → relocation_of (meaning b) s j ≡ Some (relocation_at b p.offset j)
relocation_some b s j h p w q l =
    let len = length-map-range_with_len (relocation_at b p.offset) 0 (p.size / 24)
    in relocation_in b s j h p w q
    ∙ (slice_get-get_or (map (relocation_at b p.offset) (range_with_len 0 (p.size / 24))) j (relocation_at b p.offset j) (omega arith)
    ∙ ap Some (get_or-map-range_with_len (relocation_at b p.offset) 0 (p.size / 24) j j (relocation_at b p.offset j) l (omega arith)))

pub relocation_past : (b : List ℕ) (s j : ℕ) (h p : Header) → Seen b s h → PartSeen b s p → p.size / 24 ≤ j → relocation_of (meaning b) s j ≡ None
relocation_past b s j h p w q l =
    relocation_in b s j h p w q
    ∙ slice_get_past (map (relocation_at b p.offset) (range_with_len 0 (p.size / 24))) j (omega (arith, length-map-range_with_len (relocation_at b p.offset) 0 (p.size / 24)))

-- the alignment as the larger of it and 1
pub alignment_is : (h : Header) → max h.alignment 1 ≡ alignment_of h
alignment_is h = go (h.alignment == 0) refl
  where
    go : (t : Bool) → (h.alignment == 0) ≡ t → max h.alignment 1 ≡ cond t 1 h.alignment
    go true q = grind (arith, eqb-true h.alignment 0 q)
    go false q = grind (arith, eqb-false h.alignment 0 q)

-- the setting from the notes
setting_is : (b : List ℕ) (x : Notes) (s : ℕ) (h : Header) → Noted b x → Seen b s h → setting_of b s ≡ cond (plain h && unlisted x.listed s) Foldable Pinned
setting_is b x s h r w =
    sym (ap (λ (y : Header). cond (plain y && unlisted x.listed s) Foldable Pinned) w.header
    ∙ ap (λ (y : Bool). cond (plain (section b s) && y) Foldable Pinned) (listed_noted b x s r w.few))

-- the record of a section that is shown
pub record_is : (b : List ℕ) (x : Notes) (s : ℕ) (h : Header) → Noted b x → Seen b s h
    → record_of (meaning b) s ≡ Some (record { flags = flags_of h; alignment = max h.alignment 1; size = h.size; relocations = length (relocations_in b (part b s (sections b))); setting = cond (plain h && unlisted x.listed s) Foldable Pinned })
record_is b x s h r w =
    let size : length (bytes_of b (section b s)) ≡ h.size = ap (λ (x : Header). length (bytes_of b x)) (sym w.header) ∙ bytes_length b h w.sound
    in let flags : flags_of (section b s) ≡ flags_of h = ap flags_of (sym w.header)
    in let alignment : alignment_of (section b s) ≡ max h.alignment 1 = ap alignment_of (sym w.header) ∙ sym (alignment_is h)
    in let setting = setting_is b x s h r w
    in ap told_record w.body
    ∙ (λ i. Some (record { flags = flags i; alignment = alignment i; size = size i; relocations = length (relocations_in b (part b s (sections b))); setting = setting i }))

-- each entry with a relocation can be told as one
pub ready : (b : List ℕ) (s j : ℕ) (p : Header) → held b ≡ true → s < sections b → PartSeen b s p → j < p.size / 24 → Ready b (p.offset + 24 * j)
ready b s j p h l q k =
    let f = held_facts b s h l
    in subst (λ (x : Header). j < x.size / 24 → Ready b (x.offset + 24 * j)) (sym q.header) (at_part f q.number q.whole) k
  where
    at_part : Facts b → (r : ℕ) → Whole b s r → j < (section b r).size / 24 → Ready b ((section b r).offset + 24 * j)
    at_part f r w m =
        let e = entered b s r j w m
        in let t = tables b f
        in let z = sound b s f l w.here
        in record {
          ends = omega (arith, w.ends);
          symbol_ends = omega (arith, e.symbol_below, t.ends);
          fits = record {
            offset = omega (arith, e.offset, z.size);
            symbol = omega (arith, e.symbol_below, t.few);
            low = range_low (entry_at b ((section b r).offset + 24 * j)).addend e.range;
            high = range_high (entry_at b ((section b r).offset + 24 * j)).addend e.range;
            value = λ o.
                let at = inside b (symbol b (entry_at b ((section b r).offset + 24 * j)).symbol) e.reaches o
                in let v = value_within b (entry_at b ((section b r).offset + 24 * j)).symbol t e.symbol_below o at.1
                in omega (arith, v, (sound b (symbol b (entry_at b ((section b r).offset + 24 * j)).symbol).section f at.0 at.1).size);
          };
        }
