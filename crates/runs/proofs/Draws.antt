-- What binds, pins and roots do to a graph, and that they keep its laws.
use Rattle.std.proofs.Common.{◌≡◌, ℕ, zero, suc, ◌<◌, ◌≤◌, Bool, true, false, cond, eqb, List, [], ◌∷◌, ◌++◌, length, ℤ, ◌≤ℤ◌, is_some, Some, None, Option, sym, refl, ap, ◌∙◌, subst, add-one, arith}
use Rattle.std.specs.Option.{option_map}
use Rattle.std.specs.List.{slice_get}
use Rattle.std.proofs.lemmas.Bool.{cond-true, cond-false, eq-eqb, ne_eqb}
use Rattle.std.proofs.lemmas.List.{length-map, length_push}
use Rattle.std.proofs.lemmas.Option.{slice_get-map}
use Rattle.std.proofs.ByRecursion.{All-weaker, All-push}
use Rattle.std.proofs.lemmas.Int.{ints}
use Rattle.model.specs.declared.Target.{Target}
use Rattle.model.specs.declared.Target.TheVariants.{Section, Outside}
use Rattle.model.specs.Graph.{Body, Graph, Present, section_of, count_of, record_in, told_record, told_byte, told_relocation, relocation_of, root_count_of}
use Rattle.model.specs.Laws.{Aimed, highest, LawfulBody, Valid}
use Rattle.model.proofs.Lawful.{lawful_under}
use Rattle.unfolding.specs.Groups.{aimed_at, aimed, present}
use Rattle.folding.proofs.Rebuilt.{rebuilt_at, rebuilt_length}
use Rattle.folding.proofs.Aimed.{lawful_aimed}
use Rattle.runs.specs.Drawn.{bound_target, bind, as_pinned, pin, root}
use Rattle.runs.specs.Laws.{BindDoes, pinned_record, PinDoes, Draws}

-- a section after it

pub bind_at : (e s : ℕ) (g : Graph) (t : ℕ) → section_of (bind e s g) t ≡ option_map (aimed (bound_target e s)) (section_of g t)
bind_at e s g t = rebuilt_at (λ _ b. option_map (aimed (bound_target e s)) b) g (λ _. refl) t

pub pin_at : (s : ℕ) (g : Graph) (t : ℕ) → section_of (pin s g) t ≡ cond (eqb t s) (option_map as_pinned (section_of g t)) (section_of g t)
pin_at s g t = rebuilt_at (λ t b. cond (eqb t s) (option_map as_pinned b) b) g (λ u. none (eqb u s)) t
  where
    none : (b : Bool) → cond {A = Option Body} b None None ≡ None
    none true = refl
    none false = refl

pub bind_count : (e s : ℕ) (g : Graph) → count_of (bind e s g) ≡ count_of g
bind_count e s g = rebuilt_length (λ _ b. option_map (aimed (bound_target e s)) b) g

pub pin_count : (s : ℕ) (g : Graph) → count_of (pin s g) ≡ count_of g
pin_count s g = rebuilt_length (λ t b. cond (eqb t s) (option_map as_pinned b) b) g

-- the same sections are present

some_mapped : (f : Body → Body) (b : Option Body) → is_some (option_map f b) ≡ is_some b
some_mapped f None = refl
some_mapped f (Some b) = refl

pub bind_present : (e s : ℕ) (g : Graph) (t : ℕ) → present (bind e s g) t ≡ present g t
bind_present e s g t = ap (λ (o : Option Body). is_some o) (bind_at e s g t) ∙ some_mapped (aimed (bound_target e s)) (section_of g t)

pub pin_present : (s : ℕ) (g : Graph) (t : ℕ) → present (pin s g) t ≡ present g t
pin_present s g t = ap (λ (o : Option Body). is_some o) (pin_at s g t) ∙ go (eqb t s) (section_of g t)
  where
    go : (c : Bool) (b : Option Body) → is_some (cond c (option_map as_pinned b) b) ≡ is_some b
    go true b = some_mapped as_pinned b
    go false b = refl

-- the laws hold again

pub bind_valid : (e s : ℕ) (g : Graph) → Valid g → Present g s → Valid (bind e s g)
bind_valid e s g v p =
    record {
      few = subst (λ (x : ℕ). x ≤ 1024) (sym (bind_count e s g)) v.few;
      few_roots = v.few_roots;
      bodies = λ t b h. go t b h (section_of g t) refl;
      rooted = All-weaker (Present g) (Present (bind e s g)) again g.roots v.rooted;
    }
  where
    again : (t : ℕ) → Present g t → Present (bind e s g) t
    again t h = bind_present e s g t ∙ h

    aims : (t : Target) → Aimed (Present g) t → Aimed (Present (bind e s g)) (bound_target e s t)
    aims (Section t) h = again t h
    aims (Outside x) h = by (eqb x e)
      where
        by : (c : Bool) → Aimed (Present (bind e s g)) (cond c (Section s) (Outside x))
        by true = again s p
        by false = h

    bears : (t : Target) (z : ℤ) → z ≤ℤ highest t → z ≤ℤ highest (bound_target e s t)
    bears (Section t) z h = h
    bears (Outside x) z h = by (eqb x e)
      where
        by : (c : Bool) → z ≤ℤ highest (cond c (Section s) (Outside x))
        by true = omega (arith, ints)
        by false = h

    go : (t : ℕ) (b : Body) → section_of (bind e s g) t ≡ Some b → (o : Option Body) → section_of g t ≡ o → LawfulBody (Present (bind e s g)) b
    go t b h None f =
        let n : section_of (bind e s g) t ≡ None = bind_at e s g t ∙ ap (option_map (aimed (bound_target e s))) f in
        let z : ◌≡◌ {A = ℕ} 0 1 = cc in
        absurd (omega arith)
    go t b h (Some c) f =
        let n : section_of (bind e s g) t ≡ Some (aimed (bound_target e s) c) = bind_at e s g t ∙ ap (option_map (aimed (bound_target e s))) f in
        let same : aimed (bound_target e s) c ≡ b = cc in
        subst
        (LawfulBody (Present (bind e s g)))
        same
        (lawful_aimed (Present g) (Present (bind e s g)) (bound_target e s) aims bears c (v.bodies t c f))

pub pin_valid : (s : ℕ) (g : Graph) → Valid g → Valid (pin s g)
pin_valid s g v =
    record {
      few = subst (λ (x : ℕ). x ≤ 1024) (sym (pin_count s g)) v.few;
      few_roots = v.few_roots;
      bodies = λ t b h. go t b (eqb t s) (section_of g t) refl (sym (pin_at s g t) ∙ h);
      rooted = All-weaker (Present g) (Present (pin s g)) again g.roots v.rooted;
    }
  where
    again : (t : ℕ) → Present g t → Present (pin s g) t
    again t h = pin_present s g t ∙ h

    under : (b : Body) → LawfulBody (Present g) b → LawfulBody (Present (pin s g)) b
    under b l = lawful_under (Present g) (Present (pin s g)) b (λ _ _ t _ _ h. again t h) l

    bare : (b : Body) → LawfulBody (Present (pin s g)) b → LawfulBody (Present (pin s g)) (as_pinned b)
    bare b l =
        record {
          flags = l.flags;
          alignment = l.alignment;
          size = l.size;
          bytes = l.bytes;
          few = l.few;
          relocations = l.relocations;
        }

    go :
        (t : ℕ) (b : Body) (c : Bool) (o : Option Body) →
        section_of g t ≡ o →
        cond c (option_map as_pinned o) o ≡ Some b →
        LawfulBody (Present (pin s g)) b
    go t b true None f h =
        let z : ◌≡◌ {A = ℕ} 0 1 = cc in
        absurd (omega arith)
    go t b false None f h =
        let z : ◌≡◌ {A = ℕ} 0 1 = cc in
        absurd (omega arith)
    go t b true (Some o) f h =
        let same : as_pinned o ≡ b = cc in
        subst
        (LawfulBody (Present (pin s g)))
        same
        (bare o (under o (v.bodies t o f)))
    go t b false (Some o) f h =
        let same : o ≡ b = cc in
        subst
        (LawfulBody (Present (pin s g)))
        same
        (under o (v.bodies t o f))

pub root_valid : (s : ℕ) (g : Graph) → Valid g → Present g s → root_count_of g < 4096 → Valid (root s g)
root_valid s g v p room =
    record {
      few = v.few;
      few_roots = rw (length_push g.roots s) (omega arith);
      bodies = v.bodies;
      rooted = All-push (Present g) g.roots s v.rooted p;
    }

-- the questions

aimed_record : (f : Target → Target) (b : Option Body) → told_record (option_map (aimed f) b) ≡ told_record b
aimed_record f None = refl
aimed_record f (Some b) =
    let n = length-map b.relocations (aimed_at f) in
    λ i. Some (record (record_in b) { relocations = n i })

aimed_byte : (f : Target → Target) (b : Option Body) (i : ℕ) → told_byte (option_map (aimed f) b) i ≡ told_byte b i
aimed_byte f None i = refl
aimed_byte f (Some b) i = refl

aimed_relocation : (f : Target → Target) (b : Option Body) (j : ℕ) → told_relocation (option_map (aimed f) b) j ≡ option_map (aimed_at f) (told_relocation b j)
aimed_relocation f None j = refl
aimed_relocation f (Some b) j = slice_get-map (aimed_at f) b.relocations j

bound_relocation : (e s : ℕ) (g : Graph) (t j : ℕ) → relocation_of (bind e s g) t j ≡ option_map (aimed_at (bound_target e s)) (relocation_of g t j)
bound_relocation e s g t j =
    ap (λ (o : Option Body). told_relocation o j) (bind_at e s g t) ∙ aimed_relocation (bound_target e s) (section_of g t) j

bound_named : (e s : ℕ) (x : Target) → x ≡ Outside e → bound_target e s x ≡ Section s
bound_named e s x h = ap (bound_target e s) h ∙ cond-true (eqb e e) (Section s) (Outside e) (eq-eqb e e refl)

bound_other : (e s : ℕ) (x : Target) → (x ≡ Outside e → ⊥) → bound_target e s x ≡ x
bound_other e s (Section t) h = refl
bound_other e s (Outside x) h =
    cond-false (eqb x e) (Section s) (Outside x) (ne_eqb x e (λ q. h (ap {B = Target} Outside q)))

binds : (e s : ℕ) (g : Graph) → BindDoes e s g
binds e s g =
    record {
      count = bind_count e s g;
      records = λ t. ap told_record (bind_at e s g t) ∙ aimed_record (bound_target e s) (section_of g t);
      bytes = λ t i. ap (λ (o : Option Body). told_byte o i) (bind_at e s g t) ∙ aimed_byte (bound_target e s) (section_of g t) i;
      relocations = λ t j r h. (
        aimed_at (bound_target e s) r,
        bound_relocation e s g t j ∙ ap (option_map (aimed_at (bound_target e s))) h,
        record {
          offset = refl;
          kind = refl;
          displacement = refl;
          named = bound_named e s r.target;
          other = bound_other e s r.target;
        },
      );
      no_more = λ t j h. bound_relocation e s g t j ∙ ap (option_map (aimed_at (bound_target e s))) h;
      roots = refl;
    }

pins : (s : ℕ) (g : Graph) → PinDoes s g
pins s g =
    record {
      count = pin_count s g;
      pinned =
          ap told_record
          (pin_at s g s ∙ cond-true (eqb s s) (option_map as_pinned (section_of g s)) (section_of g s) (eq-eqb s s refl)) ∙
          told (section_of g s);
      records =
          λ t ne.
          ap told_record
          (pin_at s g t ∙ cond-false (eqb t s) (option_map as_pinned (section_of g t)) (section_of g t) (ne_eqb t s ne));
      bytes = λ t i. ap (λ (o : Option Body). told_byte o i) (pin_at s g t) ∙ byte (eqb t s) (section_of g t) i;
      relocations =
          λ t j. ap (λ (o : Option Body). told_relocation o j) (pin_at s g t) ∙ relocation (eqb t s) (section_of g t) j;
      roots = refl;
    }
  where
    told : (b : Option Body) → told_record (option_map as_pinned b) ≡ option_map pinned_record (told_record b)
    told None = refl
    told (Some b) = refl

    byte : (c : Bool) (b : Option Body) (i : ℕ) → told_byte (cond c (option_map as_pinned b) b) i ≡ told_byte b i
    byte false b i = refl
    byte true None i = refl
    byte true (Some b) i = refl

    relocation : (c : Bool) (b : Option Body) (j : ℕ) → told_relocation (cond c (option_map as_pinned b) b) j ≡ told_relocation b j
    relocation false b j = refl
    relocation true None j = refl
    relocation true (Some b) j = refl

nth_earlier : (xs : List ℕ) (y j : ℕ) → j < length xs → slice_get (xs ++ y ∷ []) j ≡ slice_get xs j
nth_earlier [] y j h = absurd (omega arith)
nth_earlier (x ∷ xs) y zero h = refl
nth_earlier (x ∷ xs) y (suc j) h = nth_earlier xs y j (omega arith)

nth_last : (xs : List ℕ) (y : ℕ) → slice_get (xs ++ y ∷ []) (length xs) ≡ Some y
nth_last [] y = refl
nth_last (x ∷ xs) y = nth_last xs y

pub draws : Draws
draws =
    record {
      binds = binds;
      pins = pins;
      roots =
          λ s g.
          record {
            sections = refl;
            count = length_push g.roots s ∙ add-one (length g.roots);
            earlier = λ j h. nth_earlier g.roots s j h;
            added = nth_last g.roots s;
          };
    }
