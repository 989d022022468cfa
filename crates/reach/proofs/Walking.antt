-- What entering a section keeps, and that the marks at the end are the reached sections.
use Rattle.std.proofs.Common.{◌≡◌, ℕ, zero, suc, ◌+◌, ◌-◌, ◌<◌, ◌≤◌, Bool, true, false, not, ◌&&◌, eqb, List, [], ◌∷◌, ◌++◌, length, length-append, set, replicate, Some, None, Option, sym, refl, ap, ◌∙◌, subst, ⊎_elim, ◌⊎◌, inl, inr, add-one, arith, get_or-set_other, get_or-set_same}
use Rattle.std.specs.Prelude.{Contains, All}
use Rattle.std.specs.List.{slice_get}
use Rattle.std.proofs.lemmas.Bool.{cases_lt, cases_eq, both_ways, eq-eqb, ne_eqb}
use Rattle.std.proofs.lemmas.List.{length-set, length-replicate, get_or-replicate, get_or_past, ext_get_or}
use Rattle.std.proofs.lemmas.List.Elements.{All-push, All-weaker, Contains-append_left, Contains-push, Contains-push_cases}
use Rattle.std.proofs.lemmas.Option.{slice_get_past}
use Rattle.model.specs.declared.Target.{Target}
use Rattle.model.specs.declared.Target.TheVariants.{Section, Outside}
use Rattle.model.specs.declared.Relocation.{Relocation}
use Rattle.model.specs.Graph.{Body, Graph, Present, section_of, count_of, root_of, relocation_of, section_named, told_relocation, told_record}
use Rattle.model.specs.Laws.{Valid}
use Rattle.graph.proofs.Places.{nth_none}
use Rattle.steps.specs.Below.{count_below, table}
use Rattle.steps.proofs.Below.{table_at, table_length, table_past}
use Rattle.steps.proofs.Count.{count_same, count_removed, count_bounded}
use Rattle.steps.proofs.Nth.{all_at}
use Rattle.unfolding.specs.Reach.{Reached, root, step, has, marked, marked_next, marks, reached}
use Rattle.unfolding.proofs.Marks.{present_bound}
use Rattle.folding.proofs.Reach.{reached_decides}
use Rattle.folding.proofs.Both.{target_present}
use Rattle.graph.specs.Bytes.{told_count}
use Rattle.reach.specs.Walk.{aim_of, aims, mark_count, IsFresh, Grown, Taken}

-- reached sections

reached_present : (g : Graph) → Valid g → {s : ℕ} → Reached g s → Present g s
reached_present g v (root j {s} e) = all_at (Present g) g.roots j s v.rooted e
reached_present g v (step {s} j {t} {r} q e f) = target_present g v s j r t e f

reached_past : (g : Graph) (s : ℕ) → count_of g ≤ s → reached g s ≡ false
unfolding reached
reached_past g s h = go (count_of g)
  where
    go : (k : ℕ) → marked (marks g k) s ≡ false
    go zero = table_past (has g.roots) (count_of g) s false h
    go (suc k) = table_past (marked_next g (marks g k)) (count_of g) s false h

reached_below : (g : Graph) (s : ℕ) → reached g s ≡ true → s < count_of g
reached_below g s e =
    ⊎_elim (λ lt. lt) (λ le. absurd (both_ways (reached g s) (reached_past g s le) e)) (cases_lt s (count_of g))

pub reached_small : (g : Graph) → Valid g → (s : ℕ) → reached g s ≡ true → s < 1024
reached_small g v s e = let h = reached_below g s e in let k = v.few in omega arith

chain_of : (g : Graph) (s : ℕ) → reached g s ≡ true → Reached g s
chain_of g s e = (reached_decides g s (reached_below g s e)).0 e

of_chain : (g : Graph) → Valid g → (s : ℕ) → Reached g s → reached g s ≡ true
of_chain g v s q = (reached_decides g s (present_bound g s (reached_present g v q))).1 q

pub root_reached : (g : Graph) → Valid g → (j s : ℕ) → root_of g j ≡ Some s → reached g s ≡ true
root_reached g v j s e = of_chain g v s (root j e)

-- a relocation that points at section t
aim_is : (o : Option Relocation) (t : ℕ) → aim_of o ≡ Some t → (r : Relocation) × (o ≡ Some r) × (r.target ≡ Section t)
aim_is None t e = let z : ◌≡◌ {A = ℕ} 0 1 = cc in absurd (omega arith)
aim_is (Some r) t e = (r, refl, at r.target e)
  where
    at : (x : Target) → section_named x ≡ Some t → x ≡ Section t
    at (Section u) f = cc
    at (Outside u) f = let z : ◌≡◌ {A = ℕ} 0 1 = cc in absurd (omega arith)

pub aim_reached : (g : Graph) → Valid g → (s j t : ℕ) → reached g s ≡ true → aims g s j ≡ Some t → reached g t ≡ true
aim_reached g v s j t q e =
    let h = aim_is (relocation_of g s j) t e in
    of_chain g v t (step j (chain_of g s q) h.1 h.2)

-- counting marks

-- a section that is not marked finds fewer marks than there are numbers
count_room : (p : ℕ → Bool) (n s : ℕ) → s < n → p s ≡ false → count_below p n < n
count_room p zero s l e = absurd (omega arith)
count_room p (suc n) s l e = go (λ lt. count_room p n s lt e) (p n) refl
  where
    go : (s < n → count_below p n < n) → (b : Bool) → p n ≡ b → count_below p (suc n) < suc n
    go below true f =
        ⊎_elim
        (λ lt. rw f (let h = below lt in omega arith))
        (λ le.
        let at : n ≡ s = omega arith in
        absurd (both_ways (p s) e (subst (λ (x : ℕ). p x ≡ true) at f)))
        (cases_lt s n)
    go below false f = rw f (let h = count_bounded p n in omega arith)

-- one more
count_set : (m : List Bool) (n s : ℕ) → s < n → s < length m → marked m s ≡ false → count_below (marked (set m s true)) n ≡ count_below (marked m) n + 1
count_set m n s l k e =
    let here : marked (set m s true) s ≡ true = get_or-set_same m s true false k in
    rw (add-one (count_below (marked m) n))
    (count_removed (marked (set m s true)) n s l here ∙
    ap suc (count_same (λ x. marked (set m s true) x && not (eqb x s)) (marked m) n (λ x _. same x)))
  where
    same : (x : ℕ) → (marked (set m s true) x && not (eqb x s)) ≡ marked m x
    same x = ⊎_elim at other (cases_eq x s)
      where
        at : x ≡ s → (marked (set m s true) x && not (eqb x s)) ≡ marked m x
        at f = rw (eq-eqb x s f) (go (marked (set m s true) x) ∙ sym (subst (λ (y : ℕ). marked m y ≡ false) (sym f) e))
          where
            go : (b : Bool) → (b && false) ≡ false
            go true = refl
            go false = refl

        other : (x ≡ s → ⊥) → (marked (set m s true) x && not (eqb x s)) ≡ marked m x
        other ne = rw (ne_eqb x s ne, get_or-set_other m s x true false ne) (go (marked m x))
          where
            go : (b : Bool) → (b && true) ≡ b
            go true = refl
            go false = refl

-- entering a section that is not marked

pub room : (m : List Bool) (ps : List ℕ) (s : ℕ) → length ps ≤ mark_count m → s < 1024 → marked m s ≡ false → length ps < 1024
room m ps s h l e = let r = count_room (marked m) 1024 s l e in omega arith

module _ (m n : List Bool) (ps qs : List ℕ) (s : ℕ) (sized : length m ≡ 1024) (l : s < 1024) (e : marked m s ≡ false) (mark : n ≡ set m s true) (push : qs ≡ ps ++ s ∷ []) where
  pub here : marked n s ≡ true
  here = rw mark (get_or-set_same m s true false (omega arith))

  other : (t : ℕ) → (t ≡ s → ⊥) → marked n t ≡ marked m t
  other t ne = rw mark (get_or-set_other m s t true false ne)

  stays : (t : ℕ) → marked m t ≡ true → marked n t ≡ true
  stays t h = ⊎_elim (λ at. subst (λ (x : ℕ). marked n x ≡ true) (sym at) here) (λ ne. other t ne ∙ h) (cases_eq t s)

  counted : mark_count n ≡ mark_count m + 1
  counted = rw mark (count_set m 1024 s l (omega arith) e)

  pub enter_inside :
      (r : ℕ → Bool) → r s ≡ true → ((t : ℕ) → marked m t ≡ true → r t ≡ true) → (t : ℕ) → marked n t ≡ true → r t ≡ true
  enter_inside r q h t k =
      ⊎_elim (λ at. subst (λ (x : ℕ). r x ≡ true) (sym at) q) (λ ne. h t (sym (other t ne) ∙ k)) (cases_eq t s)

  pub enter_entered : All (λ t. marked m t ≡ true) ps → All (λ t. marked n t ≡ true) qs
  enter_entered h =
      subst (All (λ t. marked n t ≡ true)) (sym push)
      (All-push (λ t. marked n t ≡ true) ps s
      (All-weaker (λ t. marked m t ≡ true) (λ t. marked n t ≡ true) stays ps h)
      here)

  longer : length qs ≡ length ps + 1
  longer = ap length push ∙ length-append ps (s ∷ [])

  pub enter_room : length ps ≤ mark_count m → length qs ≤ mark_count n
  enter_room h = let k = counted in let n = longer in omega arith

  pub enter_grown : Grown m ps n qs
  enter_grown =
      record {
        sized = ap length mark ∙ length-set m s true;
        kept = stays;
        waits = λ t h. subst (λ (xs : List ℕ). Contains xs t) (sym push) (Contains-append_left ps (s ∷ []) t h);
        fresh =
            λ t h.
            ⊎_elim
            (λ at.
            inr
            (subst (λ (xs : List ℕ). Contains xs t) (sym push)
            (subst (λ (x : ℕ). Contains (ps ++ s ∷ []) x) (sym at) (Contains-push ps s))))
            (λ ne. inl (sym (other t ne) ∙ h))
            (cases_eq t s);
        level = let k = counted in let n = longer in omega arith;
      }

-- growing

pub grown_on :
    (m n o : List Bool) (ps qs rs : List ℕ) → Grown m ps n qs → Grown n qs o rs → Grown m ps o rs
grown_on m n o ps qs rs a b =
    record {
      sized = b.sized ∙ a.sized;
      kept = λ s h. b.kept s (a.kept s h);
      waits = λ s h. b.waits s (a.waits s h);
      fresh = λ s h. ⊎_elim (λ k. ⊎_elim (λ j. inl j) (λ w. inr (b.waits s w)) (a.fresh s k)) (λ w. inr w) (b.fresh s h);
      level = let h = a.level in let k = b.level in omega arith;
    }

-- the sections that f names below n are marked
abbrev pub TakenBelow : (ℕ → Option ℕ) → List Bool → ℕ → Type 0
TakenBelow f m n = (j : ℕ) → j < n → (s : ℕ) → f j ≡ Some s → marked m s ≡ true

pub taken_more :
    (f : ℕ → Option ℕ) (m o : List Bool) (n : ℕ) →
    ((s : ℕ) → marked m s ≡ true → marked o s ≡ true) →
    ((s : ℕ) → f n ≡ Some s → marked o s ≡ true) →
    TakenBelow f m n →
    TakenBelow f o (n + 1)
taken_more f m o n kept here h j l t q =
    ⊎_elim
    (λ lt. kept t (h j lt t q))
    (λ le.
    let at : j ≡ n = omega arith in
    here t (subst (λ (x : ℕ). f x ≡ Some t) at q))
    (cases_lt j n)

pub named : (o : Option ℕ) (m : List Bool) (s : ℕ) → o ≡ Some s → marked m s ≡ true → (t : ℕ) → o ≡ Some t → marked m t ≡ true
named o m s e h t f =
    let same : Some s ≡ Some t = sym e ∙ f in
    let one : s ≡ t = cc in
    subst (λ (x : ℕ). marked m x ≡ true) one h

pub unnamed : (o : Option ℕ) (m : List Bool) → o ≡ None → (t : ℕ) → o ≡ Some t → marked m t ≡ true
unnamed o m e t f =
    let same : None ≡ Some t = sym e ∙ f in
    let z : ◌≡◌ {A = ℕ} 0 1 = cc in
    absurd (omega arith)

-- from n on f names none
pub taken_all : (f : ℕ → Option ℕ) (m : List Bool) (n : ℕ) → ((j : ℕ) → n ≤ j → f j ≡ None) → TakenBelow f m n → Taken f m
taken_all f m n none h j t q =
    ⊎_elim
    (λ lt. h j lt t q)
    (λ le.
    let same : None ≡ Some t = sym (none j le) ∙ q in
    let z : ◌≡◌ {A = ℕ} 0 1 = cc in
    absurd (omega arith))
    (cases_lt j n)

pub roots_past : (g : Graph) (n : ℕ) → length g.roots ≤ n → (j : ℕ) → n ≤ j → root_of g j ≡ None
roots_past g n h j l = slice_get_past g.roots j (omega arith)

pub aims_past : (g : Graph) (s n : ℕ) → told_count (told_record (section_of g s)) ≤ n → (j : ℕ) → n ≤ j → aims g s j ≡ None
aims_past g s n h j l = go (section_of g s) h
  where
    go : (o : Option Body) → told_count (told_record o) ≤ n → aim_of (told_relocation o j) ≡ None
    go None k = refl
    go (Some b) k = ap (λ (x : Option Relocation). aim_of x) (slice_get_past b.relocations j (omega arith))

-- at the end

-- what is marked is pending, or has been followed
abbrev pub Followed : Graph → List Bool → List ℕ → Type 0
Followed g m ps = (s : ℕ) → marked m s ≡ true → Contains ps s ⊎ Taken (aims g s) m

pub taken_on : (f : ℕ → Option ℕ) (m o : List Bool) → ((s : ℕ) → marked m s ≡ true → marked o s ≡ true) → Taken f m → Taken f o
taken_on f m o kept h j s e = kept s (h j s e)

pub nothing_waits : (ps : List ℕ) → slice_get ps (length ps - 1) ≡ None → ps ≡ []
nothing_waits [] e = refl
nothing_waits (x ∷ xs) e = let h = nth_none (x ∷ xs) (length (x ∷ xs) - 1) e in absurd (omega arith)

-- section s was the last that was pending, and has been followed
pub followed_more :
    (g : Graph) (m o : List Bool) (ps qs rs : List ℕ) (s : ℕ) →
    ps ≡ qs ++ s ∷ [] →
    Grown m qs o rs →
    Taken (aims g s) o →
    Followed g m ps →
    Followed g o rs
followed_more g m o ps qs rs s is grown taken h t k =
    ⊎_elim
    (λ old. ⊎_elim waits (λ q. inr (taken_on (aims g t) m o grown.kept q)) (h t old))
    (λ new. inl new)
    (grown.fresh t k)
  where
    waits : Contains ps t → Contains rs t ⊎ Taken (aims g t) o
    waits w =
        ⊎_elim
        (λ still. inl (grown.waits t still))
        (λ at. inr (subst (λ (x : ℕ). Taken (aims g x) o) at taken))
        (Contains-push_cases qs s t (subst (λ (xs : List ℕ). Contains xs t) is w))

-- at the start no section is marked
unmarked : (s : ℕ) → marked (replicate 1024 false) s ≡ false
unmarked s =
    ⊎_elim
    (λ lt. get_or-replicate 1024 s false false lt)
    (λ le. get_or_past (replicate 1024 false) s false (let h = length-replicate 1024 false in omega arith))
    (cases_lt s 1024)

pub fresh_sized : (m : List Bool) (ps : List ℕ) → IsFresh m ps → (o : List Bool) (qs : List ℕ) → Grown m ps o qs → length o ≡ 1024
fresh_sized m ps f o qs a = a.sized ∙ (ap length f.unmarked ∙ length-replicate 1024 false)

pub fresh_inside : (m : List Bool) → m ≡ replicate 1024 false → (r : ℕ → Bool) (s : ℕ) → marked m s ≡ true → r s ≡ true
fresh_inside m f r s e =
    absurd (both_ways (marked m s) (subst (λ (x : List Bool). marked x s ≡ false) (sym f) (unmarked s)) e)

pub followed_fresh : (g : Graph) (m : List Bool) (ps : List ℕ) → IsFresh m ps → (o : List Bool) (qs : List ℕ) → Grown m ps o qs → Followed g o qs
followed_fresh g m ps f o qs a s h =
    ⊎_elim
    (λ old. absurd (both_ways (marked m s) (subst (λ (x : List Bool). marked x s ≡ false) (sym f.unmarked) (unmarked s)) old))
    (λ new. inl new)
    (a.fresh s h)

pub measure_falls :
    (m o : List Bool) (ps qs rs : List ℕ) (s : ℕ) → ps ≡ qs ++ s ∷ [] → Grown m qs o rs → 1024 - mark_count o + length rs < 1024 - mark_count m + length ps
measure_falls m o ps qs rs s is grown =
    let n = ap length is ∙ length-append qs (s ∷ []) in
    let k = grown.level in
    let a = count_bounded (marked m) 1024 in
    let b = count_bounded (marked o) 1024 in
    omega arith

module _ (g : Graph) (v : Valid g) (m : List Bool) (taken : Taken (root_of g) m) (followed : Followed g m []) where
  chain_marked : {s : ℕ} → Reached g s → marked m s ≡ true
  chain_marked (root j {s} e) = taken j s e
  chain_marked (step {s} j {t} {r} q e f) =
      ⊎_elim
      (λ h. let lt : h.0 < 0 = h.1 in absurd (omega arith))
      (λ h. h j t (ap aim_of e ∙ ap section_named f))
      (followed s (chain_marked q))

  -- the marks are the reached sections
  pub marks_reached :
      length m ≡ 1024 → ((s : ℕ) → marked m s ≡ true → reached g s ≡ true) → m ≡ table (reached g) 1024
  marks_reached sized inside =
      ext_get_or
      false
      m
      (table (reached g) 1024)
      (sized ∙ sym (table_length (reached g) 1024))
      (λ s l. same s ∙ sym (table_at (reached g) 1024 s false (omega arith)))
    where
      tests : (a b : Bool) → (a ≡ true → b ≡ true) → (b ≡ true → a ≡ true) → a ≡ b
      tests true b f k = sym (f refl)
      tests false true f k = k refl
      tests false false f k = refl

      same : (s : ℕ) → marked m s ≡ reached g s
      same s = tests (marked m s) (reached g s) (inside s) (λ e. chain_marked (chain_of g s e))
