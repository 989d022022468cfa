-- The drawn graph from the inner table: what each change makes of it, and its sections.
use Rattle.std.proofs.Common.{◌≡◌, ℕ, ◌<◌, Bool, true, false, cond, eqb, List, [], ◌∷◌, ◌++◌, map, length, get_or, set, replicate, is_some, Some, None, Option, sym, refl, ap, ◌∙◌, subst, ⊎_elim, append_assoc}
use Rattle.std.specs.Option.{option_map}
use Rattle.std.proofs.lemmas.Bool.{cases_lt, cases_eq, eq-eqb, ne_eqb, cond-true, cond-false}
use Rattle.std.proofs.lemmas.List.{append-nil, get_or-replicate, get_or_past, get_or-set_same, get_or-set_other, length-replicate}
use Rattle.model.specs.declared.Target.{Target}
use Rattle.model.specs.declared.Relocation.{Relocation}
use Rattle.model.specs.Graph.{Body, Graph, section_of, count_of}
use Rattle.unfolding.specs.Groups.{aimed_at, aimed, present}
use Rattle.folding.proofs.Rebuilt.{rebuilt_at, rebuilt_length}
use Rattle.folding.proofs.Aimed.{relocations_same}
use Rattle.runs.specs.Drawn.{bound_target, bind, as_pinned, pin, root}
use Rattle.runs.proofs.Draws.{bind_at, bind_count, pin_at, pin_count}
use Rattle.runs.proofs.Noted.{same_graph}
use Rattle.ledger.specs.declared.Ledger.{Ledger}
use Rattle.ledger.specs.Edits.{fresh, with_bind, with_pin, with_root}
use Rattle.ledger.specs.Told.{bound_by, pinned, drawn_section, drawn_from}
use Rattle.ledger.proofs.Binds.{bound_push}

-- relocations put elsewhere

list_twice : (f h k : Target → Target) → ((x : Target) → k x ≡ f (h x)) → (rs : List Relocation) → map (aimed_at k) rs ≡ map (aimed_at f) (map (aimed_at h) rs)
list_twice f h k same [] = refl
list_twice f h k same (r ∷ rs) =
    let here = same r.target in
    let rest = list_twice f h k same rs in
    λ i. record { offset = r.offset; kind = r.kind; target = here i; displacement = r.displacement } ∷ rest i

pub aimed_twice : (f h k : Target → Target) → ((x : Target) → k x ≡ f (h x)) → (o : Option Body) → option_map (aimed k) o ≡ option_map (aimed f) (option_map (aimed h) o)
aimed_twice f h k same None = refl
aimed_twice f h k same (Some b) =
    let rs = list_twice f h k same b.relocations in
    λ i. Some (record { flags = b.flags; alignment = b.alignment; bytes = b.bytes; setting = b.setting; relocations = rs i })

aimed_none : (o : Option Body) → option_map (aimed (λ x. x)) o ≡ o
aimed_none None = refl
aimed_none (Some b) =
    let rs = relocations_same (λ x. x) (λ _. refl) b.relocations in
    λ i. Some (record { flags = b.flags; alignment = b.alignment; bytes = b.bytes; setting = b.setting; relocations = rs i })

pinned_aimed :
    (f : Target → Target) (c : Bool) (o : Option Body) →
    option_map (aimed f) (option_map as_pinned o) ≡ option_map as_pinned (option_map (aimed f) (cond c (option_map as_pinned o) o))
pinned_aimed f true None = refl
pinned_aimed f true (Some b) = refl
pinned_aimed f false None = refl
pinned_aimed f false (Some b) = refl

-- the sections of the drawn graph

drawn_none : (t : Ledger) (s : ℕ) → drawn_section t s None ≡ None
drawn_none t s = go (pinned t s)
  where
    go : (c : Bool) → option_map (aimed (bound_by t)) (cond c (option_map as_pinned None) None) ≡ None
    go true = refl
    go false = refl

pub drawn_at : (g : Graph) (t : Ledger) (s : ℕ) → section_of (drawn_from g t) s ≡ drawn_section t s (section_of g s)
unfolding drawn_from
drawn_at g t s = rebuilt_at (drawn_section t) g (drawn_none t) s

pub drawn_count : (g : Graph) (t : Ledger) → count_of (drawn_from g t) ≡ count_of g
unfolding drawn_from
drawn_count g t = rebuilt_length (drawn_section t) g

drawn_some : (t : Ledger) (s : ℕ) (o : Option Body) → is_some (drawn_section t s o) ≡ is_some o
drawn_some t s o = go (pinned t s) o
  where
    go : (c : Bool) (o : Option Body) → is_some (option_map (aimed (bound_by t)) (cond c (option_map as_pinned o) o)) ≡ is_some o
    go true None = refl
    go true (Some b) = refl
    go false None = refl
    go false (Some b) = refl

pub drawn_present : (g : Graph) (t : Ledger) (s : ℕ) → present (drawn_from g t) s ≡ present g s
drawn_present g t s = ap (λ (o : Option Body). is_some o) (drawn_at g t s) ∙ drawn_some t s (section_of g s)

pub drawn_roots : (g : Graph) (t : Ledger) → (drawn_from g t).roots ≡ g.roots ++ t.roots.items
unfolding drawn_from
drawn_roots g t = refl

-- a new table

pub drawn_fresh : (g : Graph) → drawn_from g fresh ≡ g
drawn_fresh g =
    same_graph (drawn_from g fresh) g (drawn_count g fresh)
    (λ s.
    drawn_at g fresh s ∙
    (ap
    (λ (c : Bool). option_map (aimed (bound_by fresh)) (cond c (option_map as_pinned (section_of g s)) (section_of g s)))
    (no_pin s) ∙
    aimed_none (section_of g s)))
    (drawn_roots g fresh ∙ append-nil g.roots)
  where
    no_pin : (s : ℕ) → pinned fresh s ≡ false
    no_pin s =
        ⊎_elim
        (λ h. get_or-replicate 1024 s false false h)
        (λ h. get_or_past (replicate 1024 false) s false (rw (length-replicate 1024 false) h))
        (cases_lt s 1024)

-- a bind

pub drawn_bind : (g : Graph) (t : Ledger) (e s : ℕ) → drawn_from g (with_bind t e s) ≡ bind e s (drawn_from g t)
drawn_bind g t e s =
    same_graph (drawn_from g (with_bind t e s)) (bind e s (drawn_from g t))
    (drawn_count g (with_bind t e s) ∙ sym (bind_count e s (drawn_from g t) ∙ drawn_count g t))
    (λ u.
    drawn_at g (with_bind t e s) u ∙
    (aimed_twice
    (bound_target e s)
    (bound_by t)
    (bound_by (with_bind t e s))
    (bound_push t.binds.items (record { name = e; section = s }))
    (cond (pinned t u) (option_map as_pinned (section_of g u)) (section_of g u)) ∙
    sym (bind_at e s (drawn_from g t) u ∙ ap (option_map (aimed (bound_target e s))) (drawn_at g t u))))
    (drawn_roots g (with_bind t e s) ∙ sym (drawn_roots g t))

-- a pin

pub drawn_pin : (g : Graph) (t : Ledger) (s : ℕ) → s < length t.pins → drawn_from g (with_pin t s) ≡ pin s (drawn_from g t)
drawn_pin g t s h =
    same_graph (drawn_from g (with_pin t s)) (pin s (drawn_from g t))
    (drawn_count g (with_pin t s) ∙ sym (pin_count s (drawn_from g t) ∙ drawn_count g t))
    (λ u. drawn_at g (with_pin t s) u ∙ (⊎_elim (at u) (other u) (cases_eq u s) ∙ sym (pin_at s (drawn_from g t) u)))
    (drawn_roots g (with_pin t s) ∙ sym (drawn_roots g t))
  where
    at : (u : ℕ) → u ≡ s → drawn_section (with_pin t s) u (section_of g u) ≡ cond (eqb u s) (option_map as_pinned (section_of (drawn_from g t) u)) (section_of (drawn_from g t) u)
    at u e =
        let yes : pinned (with_pin t s) u ≡ true = subst (λ (x : ℕ). get_or (set t.pins s true) x false ≡ true) (sym e) (get_or-set_same t.pins s true false h) in
        ap
        (λ (c : Bool). option_map (aimed (bound_by t)) (cond c (option_map as_pinned (section_of g u)) (section_of g u)))
        yes ∙
        (pinned_aimed (bound_by t) (pinned t u) (section_of g u) ∙
        (ap (option_map as_pinned) (sym (drawn_at g t u)) ∙
        sym
        (cond-true
        (eqb u s)
        (option_map as_pinned (section_of (drawn_from g t) u))
        (section_of (drawn_from g t) u)
        (eq-eqb u s e))))

    other : (u : ℕ) → (u ≡ s → ⊥) → drawn_section (with_pin t s) u (section_of g u) ≡ cond (eqb u s) (option_map as_pinned (section_of (drawn_from g t) u)) (section_of (drawn_from g t) u)
    other u ne =
        ap
        (λ (c : Bool). option_map (aimed (bound_by t)) (cond c (option_map as_pinned (section_of g u)) (section_of g u)))
        (get_or-set_other t.pins s u true false ne) ∙
        (sym (drawn_at g t u) ∙
        sym
        (cond-false
        (eqb u s)
        (option_map as_pinned (section_of (drawn_from g t) u))
        (section_of (drawn_from g t) u)
        (ne_eqb u s ne)))

-- a root

pub drawn_root : (g : Graph) (t : Ledger) (s : ℕ) → drawn_from g (with_root t s) ≡ root s (drawn_from g t)
unfolding drawn_from
drawn_root g t s =
    let roots : g.roots ++ (t.roots.items ++ s ∷ []) ≡ (g.roots ++ t.roots.items) ++ s ∷ [] =
    sym (append_assoc g.roots t.roots.items (s ∷ [])) in
    λ i. record { sections = (drawn_from g t).sections; roots = roots i }
