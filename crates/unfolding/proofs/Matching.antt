-- Alike sections match, and matching sections are alike.
use Rattle.std.proofs.Common.{◌≡◌, ℕ, zero, suc, true, false, List, [], ◌∷◌, map, length, is_some, Some, None, Option, unwrap_or, sym, refl, ap, ◌∙◌}
use Rattle.std.specs.Option.{option_map}
use Rattle.std.specs.List.{slice_get}
use Rattle.std.proofs.lemmas.List.{ext_get_or}
use Rattle.std.proofs.lemmas.Option.{unwrap_or-slice_get}
use Rattle.model.specs.declared.Setting.{Setting}
use Rattle.model.specs.declared.Setting.TheVariants.{Foldable, Pinned}
use Rattle.model.specs.declared.Target.{Target}
use Rattle.model.specs.declared.Target.TheVariants.{Section, Outside}
use Rattle.model.specs.declared.Relocation.{Relocation}
use Rattle.model.specs.declared.Record.{Record}
use Rattle.model.specs.Graph.{Body, section_of, record_in, told_record, told_byte, told_relocation}
use Rattle.unfolding.specs.Depth.{Link, unfolding_at}
use Rattle.unfolding.specs.Telling.{told_target, arm, arms_in, setting_in, look}
use Rattle.unfolding.specs.Groups.{may_fold}
use Rattle.unfolding.specs.Sections.{Mark, Face, mark_of, face_of, Agree, rules}
use Rattle.unfolding.specs.Matching.{Aims, BothLink, AlikeMatches, MatchingAlike}
use Rattle.unfolding.proofs.Shapes.{ToldRel, ArmsRel, ShapeRel, shape_to, shape_from}
use Rattle.unfolding.proofs.Theorems.{marks_tell}

-- relocations that agree at every depth

told_aims :
    (R : ℕ → ℕ → ℕ → Type 0) (a b : Target) →
    ((k : ℕ) → ToldRel (R k) (told_target a) (told_target b)) →
    Aims (λ x y. (k : ℕ) → R k x y) a b
told_aims R (Section s) (Section t) h = h
told_aims R (Section s) (Outside f) h = h 0
told_aims R (Outside e) (Section t) h = h 0
told_aims R (Outside e) (Outside f) h = h 0

arms_link :
    (R : ℕ → ℕ → ℕ → Type 0) (xs ys : List Relocation) →
    ((k : ℕ) → ArmsRel (R k) (map arm xs) (map arm ys)) →
    (j : ℕ) →
    BothLink (λ x y. (k : ℕ) → R k x y) (slice_get xs j) (slice_get ys j)
arms_link R [] [] h j = tt
arms_link R [] (y ∷ ys) h j = absurd (h 0)
arms_link R (x ∷ xs) [] h j = absurd (h 0)
arms_link R (x ∷ xs) (y ∷ ys) h zero =
    record {
      offset = ap (λ (l : Link). l.offset) (h 0).0;
      kind = ap (λ (l : Link). l.kind) (h 0).0;
      displacement = ap (λ (l : Link). l.displacement) (h 0).0;
      target = told_aims R x.target y.target (λ k. (h k).1);
    }
arms_link R (x ∷ xs) (y ∷ ys) h (suc j) = arms_link R xs ys (λ k. (h k).2) j

arms_length : (R : ℕ → ℕ → Type 0) (xs ys : List Relocation) → ArmsRel R (map arm xs) (map arm ys) → length xs ≡ length ys
arms_length R [] [] h = refl
arms_length R [] (y ∷ ys) h = absurd h
arms_length R (x ∷ xs) [] h = absurd h
arms_length R (x ∷ xs) (y ∷ ys) h = ap suc (arms_length R xs ys h.2)

mark_setting : (s t : ℕ) (a b : Option Setting) → mark_of s a ≡ mark_of t b → a ≡ b
mark_setting s t None None e = refl
mark_setting s t None (Some Foldable) e = cc
mark_setting s t None (Some Pinned) e = cc
mark_setting s t (Some Foldable) None e = cc
mark_setting s t (Some Pinned) None e = cc
mark_setting s t (Some Foldable) (Some Foldable) e = refl
mark_setting s t (Some Foldable) (Some Pinned) e = cc
mark_setting s t (Some Pinned) (Some Foldable) e = cc
mark_setting s t (Some Pinned) (Some Pinned) e = refl

-- the answers about two sections that are told alike

same_records :
    (s t : ℕ) (a b : Option Body) (R : ℕ → ℕ → Type 0) →
    mark_of s (option_map setting_in a) ≡ mark_of t (option_map setting_in b) →
    face_of a ≡ face_of b →
    ArmsRel R (arms_in a) (arms_in b) →
    told_record a ≡ told_record b
same_records s t None None R m f h = refl
same_records s t None (Some y) R m f h =
    let z = mark_setting s t None (Some y.setting) m in
    cc
same_records s t (Some x) None R m f h =
    let z = mark_setting s t (Some x.setting) None m in
    cc
same_records s t (Some x) (Some y) R m f h =
    let flags = ap (λ (z : Face). z.flags) f in
    let alignment = ap (λ (z : Face). z.alignment) f in
    let sizes = ap (λ (z : Face). length z.bytes) f in
    let counts = arms_length R x.relocations y.relocations h in
    let settings : x.setting ≡ y.setting = out (mark_setting s t (Some x.setting) (Some y.setting) m) in
    λ i. Some (record { flags = flags i; alignment = alignment i; size = sizes i; relocations = counts i; setting = settings i })
  where
    out : Some x.setting ≡ Some y.setting → x.setting ≡ y.setting
    out e = cc

bytes_told : (a : Option Body) (i : ℕ) → told_byte a i ≡ slice_get (face_of a).bytes i
bytes_told None i = refl
bytes_told (Some b) i = refl

same_links :
    (R : ℕ → ℕ → ℕ → Type 0) (a b : Option Body) →
    ((k : ℕ) → ArmsRel (R k) (arms_in a) (arms_in b)) →
    (j : ℕ) →
    BothLink (λ x y. (k : ℕ) → R k x y) (told_relocation a j) (told_relocation b j)
same_links R None None h j = tt
same_links R None (Some y) h j = arms_link R [] y.relocations h j
same_links R (Some x) None h j = arms_link R x.relocations [] h j
same_links R (Some x) (Some y) h j = arms_link R x.relocations y.relocations h j

pub alike_matches : AlikeMatches
unfolding rules
alike_matches g s h t alike =
    record {
      number = λ p f. marks_tell.pins g s h t p f (alike 0);
      records = same_records s t (section_of g s) (section_of h t) (λ x y. Agree 0 g x h y) (shapes 0).marks (shapes 0).faces (shapes 0).arms;
      bytes =
          λ i.
          bytes_told (section_of g s) i ∙
          (ap (λ (z : Face). slice_get z.bytes i) (shapes 0).faces ∙ sym (bytes_told (section_of h t) i));
      relocations = same_links (λ k x y. Agree k g x h y) (section_of g s) (section_of h t) (λ k. (shapes k).arms);
    }
  where
    shapes : (k : ℕ) → ShapeRel (λ x y. Agree k g x h y) (look rules g s) (look rules h t)
    shapes k = shape_to (unfolding_at (look rules g) k) (unfolding_at (look rules h) k) (look rules g s) (look rules h t) (alike (suc k))

-- the other way

-- two present sections with one record
one_record : (x y : Body) → told_record (Some x) ≡ told_record (Some y) → record_in x ≡ record_in y
one_record x y e = cc

module _ (R Q : ℕ → ℕ → Type 0) (keeps : (x y : ℕ) → R x y → Q x y) where
  aims_told : (a b : Target) → Aims R a b → ToldRel Q (told_target a) (told_target b)
  aims_told (Section s) (Section t) h = keeps s t h
  aims_told (Section s) (Outside f) h = h
  aims_told (Outside e) (Section t) h = h
  aims_told (Outside e) (Outside f) h = h

  link_arms :
      (xs ys : List Relocation) → ((j : ℕ) → BothLink R (slice_get xs j) (slice_get ys j)) → ArmsRel Q (map arm xs) (map arm ys)
  link_arms [] [] h = tt
  link_arms [] (y ∷ ys) h = h 0
  link_arms (x ∷ xs) [] h = h 0
  link_arms (x ∷ xs) (y ∷ ys) h =
      let first = h 0 in (
        (λ i. record { offset = first.offset i; kind = first.kind i; displacement = first.displacement i }),
        aims_told x.target y.target first.target,
        link_arms xs ys (λ j. h (suc j)),
      )

  links_arms :
      (a b : Option Body) → ((j : ℕ) → BothLink R (told_relocation a j) (told_relocation b j)) → ArmsRel Q (arms_in a) (arms_in b)
  links_arms None None h = tt
  links_arms None (Some y) h = link_arms [] y.relocations h
  links_arms (Some x) None h = link_arms x.relocations [] h
  links_arms (Some x) (Some y) h = link_arms x.relocations y.relocations h

same_mark :
    (s t : ℕ) (a b : Option Body) →
    (is_some a ≡ true → may_fold (option_map setting_in a) ≡ false → s ≡ t) →
    told_record a ≡ told_record b →
    mark_of s (option_map setting_in a) ≡ mark_of t (option_map setting_in b)
same_mark s t None None n e = refl
same_mark s t None (Some y) n e = cc
same_mark s t (Some x) None n e = cc
same_mark s t (Some x) (Some y) n e = go x.setting refl y.setting refl
  where
    settings : x.setting ≡ y.setting
    settings = ap (λ (r : Record). r.setting) (one_record x y e)

    go : (a : Setting) → x.setting ≡ a → (b : Setting) → y.setting ≡ b → mark_of s (Some x.setting) ≡ mark_of t (Some y.setting)
    go Foldable p Foldable q = rw (p, q)
    go Foldable p Pinned q =
        let z : Foldable ≡ Pinned = sym p ∙ (settings ∙ q) in
        cc
    go Pinned p Foldable q =
        let z : Pinned ≡ Foldable = sym p ∙ (settings ∙ q) in
        cc
    go Pinned p Pinned q =
        let same = n refl (rw p) in
        rw (p, q) (ap {B = Mark} Mark.pinned same)

same_face :
    (a b : Option Body) → told_record a ≡ told_record b → ((i : ℕ) → told_byte a i ≡ told_byte b i) → face_of a ≡ face_of b
same_face None None e h = refl
same_face None (Some y) e h = cc
same_face (Some x) None e h = cc
same_face (Some x) (Some y) e h =
    let same = one_record x y e in
    let bytes =
    ext_get_or 0 x.bytes y.bytes (ap (λ (r : Record). r.size) same)
    (λ i _. sym (unwrap_or-slice_get x.bytes i 0) ∙ (ap (λ (o : Option ℕ). unwrap_or o 0) (h i) ∙ unwrap_or-slice_get y.bytes i 0)) in
    λ i. record { flags = (same i).flags; alignment = (same i).alignment; bytes = bytes i }

pub matching_alike : MatchingAlike
unfolding rules
matching_alike R g h match s t r zero =
    let m = match s t r in
    same_mark s t (section_of g s) (section_of h t) m.number m.records
matching_alike R g h match s t r (suc k) =
    let m = match s t r in
    shape_from
    (unfolding_at (look rules g) k)
    (unfolding_at (look rules h) k)
    (look rules g s)
    (look rules h t)
    (record {
      marks = same_mark s t (section_of g s) (section_of h t) m.number m.records;
      faces = same_face (section_of g s) (section_of h t) m.records m.bytes;
      arms =
          links_arms
          (λ x y. R x y ≡ true)
          (λ x y. Agree k g x h y)
          (λ x y e. matching_alike R g h match x y e k)
          (section_of g s)
          (section_of h t)
          m.relocations;
    })
