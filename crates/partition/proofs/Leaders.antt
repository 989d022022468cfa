-- The base of a section is the first leader of its own content.
use Rattle.std.proofs.Common.{◌≡◌, ℕ, ◌+◌, ◌<◌, ◌≤◌, Bool, true, false, eqb, ◌&&◌, ◌==◌, slice_index, List, length, set, replicate, Decides, sym, refl, ap, ◌∙◌, subst, ⊎_elim, ◌⊎◌, inl, inr, arith}
use Rattle.std.proofs.lemmas.List.{get_or-set_same, get_or-set_other, length-set, length-replicate}
use Rattle.std.proofs.lemmas.Bool.{cases_lt, cases_Bool, both_ways, cond-true, cond-false, eq-eqb, ne_eqb, eqb-true, and_parts, and_from}
use Rattle.std.proofs.lemmas.Bool.Decides.{Decides-and}
use Rattle.model.specs.Graph.{Graph, section_of}
use Rattle.steps.specs.Below.{least_below}
use Rattle.steps.proofs.Below.{least_passes, least_least}
use Rattle.graph.specs.Bytes.{relocations_in}
use Rattle.unfolding.specs.Depth.{same_list}
use Rattle.unfolding.specs.Groups.{foldable, FoldAble}
use Rattle.content.specs.Core.{core_of, same_core, digest_core, Core}
use Rattle.content.specs.Aims.{same_aim}
use Rattle.content.proofs.Cores.{core_decides}
use Rattle.partition.specs.declared.Base.{Base}
use Rattle.partition.specs.Classes.{Found, cored, digest_of, no_base, base_at, base_in, is_led_by, same_leader, same_base, based, joined, Based, Bases}

module _ (g : Graph) where
  abbrev core : ℕ → Core
  core s = core_of (section_of g s)

  cored_decides : (s t : ℕ) → Decides (cored g s t) (FoldAble g t × (core t ≡ core s))
  cored_decides s t =
      Decides-and (foldable g t) (same_core (section_of g t) (section_of g s)) ((λ e. e), (λ e. e)) (core_decides (section_of g t) (section_of g s))

  -- the section that leads the base of a foldable section
  abbrev lead_of : ℕ → ℕ
  lead_of s = least_below (cored g s) s

  -- the base that a foldable section has
  abbrev base : ℕ → Base
  base s = record { leader = lead_of s; digest = digest_of g s }

  base_fold : (s : ℕ) → FoldAble g s → base_at g s ≡ base s
  unfolding base_at
  base_fold s h = cond-true (foldable g s) (base s) no_base h

  pub base_none : (s : ℕ) → foldable g s ≡ false → base_at g s ≡ no_base
  unfolding base_at
  base_none s h = cond-false (foldable g s) (base s) no_base h

  lead_member : (s : ℕ) → FoldAble g s → FoldAble g (lead_of s) × (core (lead_of s) ≡ core s)
  lead_member s h = (cored_decides s (lead_of s)).0 (least_passes (cored g s) s ((cored_decides s s).1 (h, refl)))

  lead_lowest : (s t : ℕ) → FoldAble g t → core t ≡ core s → lead_of s ≤ t
  lead_lowest s t f e = least_least (cored g s) s t ((cored_decides s t).1 (f, e))

  -- one core, one leader
  lead_same : (s t : ℕ) → FoldAble g s → FoldAble g t → core s ≡ core t → lead_of s ≡ lead_of t
  lead_same s t h f e =
      let a = lead_member s h in
      let b = lead_member t f in
      let up : lead_of s ≤ lead_of t = lead_lowest s (lead_of t) b.0 (b.1 ∙ sym e) in
      let down : lead_of t ≤ lead_of s = lead_lowest t (lead_of s) a.0 (a.1 ∙ e) in
      omega arith

  -- one core, one base
  pub base_same : (s t : ℕ) → FoldAble g s → FoldAble g t → core s ≡ core t → same_base (base_at g s) (base_at g t) ≡ true
  base_same s t h f e =
      rw (base_fold s h, base_fold t f)
      (and_from
      (eqb (lead_of s) (lead_of t))
      (eqb (digest_of g s) (digest_of g t))
      (eq-eqb (lead_of s) (lead_of t) (lead_same s t h f e))
      (eq-eqb (digest_of g s) (digest_of g t) (ap digest_core e)))

  pub base_shares : (s t : ℕ) → FoldAble g s → FoldAble g t → same_leader (base_at g s) (base_at g t) ≡ true → core s ≡ core t
  base_shares s t h f e =
      let test : same_leader (base s) (base t) ≡ true = rw (base_fold s h, base_fold t f) at e in
      let leads : lead_of s ≡ lead_of t = eqb-true (lead_of s) (lead_of t) test in
      sym (lead_member s h).1 ∙ (ap core leads ∙ (lead_member t f).1)

  -- sections whose bases have one leader have one base: a section that is not foldable has the leader 1,024
  one_leader : (s t : ℕ) → s < 1024 → t < 1024 → (base_at g s).leader ≡ (base_at g t).leader → base_at g s ≡ base_at g t
  one_leader s t small low e = go (cases_Bool (foldable g s)) (cases_Bool (foldable g t))
    where
      go : (foldable g s ≡ true) ⊎ (foldable g s ≡ false) → (foldable g t ≡ true) ⊎ (foldable g t ≡ false) → base_at g s ≡ base_at g t
      go (inl h) (inl f) =
          let lead : lead_of s ≡ lead_of t = rw (base_fold s h, base_fold t f) at e in
          let digest = ap digest_core (base_shares s t h f (eq-eqb (base_at g s).leader (base_at g t).leader e)) in
          base_fold s h ∙ ((λ i. record { leader = lead i; digest = digest i }) ∙ sym (base_fold t f))
      go (inl h) (inr f) =
          let led : lead_of s ≡ 1024 = rw (base_fold s h, base_none t f) at e in
          let top = lead_lowest s s h refl in
          absurd (omega arith)
      go (inr h) (inl f) =
          let led : 1024 ≡ lead_of t = rw (base_none s h, base_fold t f) at e in
          let top = lead_lowest t t f refl in
          absurd (omega arith)
      go (inr h) (inr f) = base_none s h ∙ sym (base_none t f)

  -- so the leaders alone tell whether two bases in the list of all are one
  pub leaders_decide :
      (bases : List Base) (s t : ℕ) →
      Bases g bases →
      s < 1024 →
      t < s →
      same_base (base_in bases t) (base_in bases s) ≡ same_leader (base_in bases t) (base_in bases s)
  leaders_decide bases s t known small low = go (same_leader a b) refl
    where
      a : Base
      a = base_in bases t

      b : Base
      b = base_in bases s

      go : (r : Bool) → same_leader a b ≡ r → same_base a b ≡ same_leader a b
      go false e = rw e refl
      go true e =
          let lead : (base_at g t).leader ≡ (base_at g s).leader =
          rw (known.at t (omega arith), known.at s small) at (eqb-true a.leader b.leader e) in
          let one = known.at t (omega arith) ∙ (one_leader t s (omega arith) small lead ∙ sym (known.at s small)) in
          rw e (eq-eqb a.digest b.digest (ap (λ (x : Base). x.digest) one))

  -- and so in a round
  pub joined_by_leaders :
      (bases : List Base) (old new : List ℕ) (s t : ℕ) →
      Bases g bases →
      s < 1024 →
      t < s →
      joined g bases old new s t ≡
      ((slice_index new t == t) &&
      ((slice_index old t == slice_index old s) &&
      (same_leader (base_in bases t) (base_in bases s) &&
      same_list (same_aim old) (relocations_in (section_of g t)) (relocations_in (section_of g s)))))
  joined_by_leaders bases old new s t known small low = rw (leaders_decide bases s t known small low) refl

  -- a section that leads its base is foldable, and the first with its core
  leads_itself : (t : ℕ) → t < 1024 → is_led_by (base_at g t) t ≡ true → FoldAble g t × (lead_of t ≡ t)
  leads_itself t small e = ⊎_elim (λ h. (h, eqb-true (lead_of t) t (rw (base_fold t h) at e))) never (cases_Bool (foldable g t))
    where
      never : foldable g t ≡ false → FoldAble g t × (lead_of t ≡ t)
      never h =
          let led : is_led_by no_base t ≡ true = rw (base_none t h) at e in
          let same : 1024 ≡ t = eqb-true 1024 t led in
          absurd (omega arith)

  -- the first leader with the core of section s leads its base
  base_found :
      (bases : List Base) (s m : ℕ) → s < 1024 → FoldAble g s → Based g bases s → Found (based g bases s) 0 s m → m ≡ lead_of s
  base_found bases s m small h below f = ⊎_elim inside outside (cases_lt m s)
    where
      inside : m < s → m ≡ lead_of s
      inside lt =
          let tests = and_parts (is_led_by (base_in bases m) m) (same_core (section_of g m) (section_of g s)) (f.found lt) in
          let led : is_led_by (base_at g m) m ≡ true = rw (below m lt) at tests.0 in
          let leads = leads_itself m (omega arith) led in
          sym leads.1 ∙ lead_same m s leads.0 h ((core_decides (section_of g m) (section_of g s)).0 tests.1)

      outside : s ≤ m → m ≡ lead_of s
      outside le = ⊎_elim never (λ ge. let low = lead_lowest s s h refl in let top = f.bounded in omega arith) (cases_lt (lead_of s) s)
        where
          never : lead_of s < s → m ≡ lead_of s
          never lt =
              let member = lead_member s h in
              let own : lead_of (lead_of s) ≡ lead_of s = lead_same (lead_of s) s member.0 h member.1 in
              let there : is_led_by (base_in bases (lead_of s)) (lead_of s) ≡ true =
              rw (below (lead_of s) lt, base_fold (lead_of s) member.0) (eq-eqb (lead_of (lead_of s)) (lead_of s) own) in
              absurd
              (both_ways
              (based g bases s (lead_of s))
              (f.before (lead_of s) (omega arith) (omega arith))
              (and_from
              (is_led_by (base_in bases (lead_of s)) (lead_of s))
              (same_core (section_of g (lead_of s)) (section_of g s))
              there
              ((core_decides (section_of g (lead_of s)) (section_of g s)).1 member.1)))

  -- the base of section s from the first leader
  pub base_made :
      (bases : List Base) (s m h : ℕ) →
      s < 1024 →
      FoldAble g s →
      Based g bases s →
      Found (based g bases s) 0 s m →
      h ≡ digest_of g s →
      record { leader = m; digest = h } ≡ base_at g s
  base_made bases s m h small f below found digest =
      let lead = base_found bases s m small f below found in
      (λ i. record { leader = lead i; digest = digest i }) ∙ sym (base_fold s f)

  -- a section that does not lead a base with the digest of section s has another core than it, or leads none
  pub digest_decides :
      (bases : List Base) (s t : ℕ) →
      s < 1024 →
      t < s →
      Based g bases s →
      (base_in bases t ≡ record { leader = t; digest = digest_of g s } → ⊥) →
      false ≡ based g bases s t
  digest_decides bases s t small l below ne = unlike (based g bases s t) refl
    where
      unlike : (b : Bool) → based g bases s t ≡ b → false ≡ based g bases s t
      unlike false e = sym e
      unlike true e =
          let tests = and_parts (is_led_by (base_in bases t) t) (same_core (section_of g t) (section_of g s)) e in
          let led : is_led_by (base_at g t) t ≡ true = rw (below t l) at tests.0 in
          let leads = leads_itself t (omega arith) led in
          let same = ap digest_core ((core_decides (section_of g t) (section_of g s)).0 tests.1) in
          let lead = leads.1 in
          absurd (ne (below t l ∙ (base_fold t leads.0 ∙ (λ i. record { leader = lead i; digest = same i }))))

  -- so has one whose base has another digest
  pub digest_differs :
      (bases : List Base) (s t : ℕ) →
      s < 1024 →
      t < s →
      Based g bases s →
      ((base_in bases t).digest ≡ digest_of g s → ⊥) →
      false ≡ based g bases s t
  digest_differs bases s t small l below ne = digest_decides bases s t small l below (λ e. ne (ap (λ (b : Base). b.digest) e))

-- what a search asks of one section

pub led_shares : (b : Base) (t : ℕ) (r s : Bool) → b.leader ≡ t → r ≡ s → r ≡ (is_led_by b t && s)
led_shares b t r s e h = h ∙ sym (ap (λ (x : Bool). x && s) (eq-eqb b.leader t e))

pub unled_none : (b : Base) (t : ℕ) (r s : Bool) → (b.leader ≡ t → ⊥) → r ≡ false → r ≡ (is_led_by b t && s)
unled_none b t r s ne h = h ∙ sym (ap (λ (x : Bool). x && s) (ne_eqb b.leader t ne))

-- the digests may be compared before the contents
pub based_by_digests :
    (g : Graph) (bases : List Base) (s t : ℕ) →
    s < 1024 →
    t < s →
    Based g bases s →
    based g bases s t ≡
    (((base_in bases t).leader == t) &&
    (((base_in bases t).digest == digest_of g s) && same_core (section_of g t) (section_of g s)))
based_by_digests g bases s t small low below = go ((base_in bases t).leader == t) ((base_in bases t).digest == digest_of g s) refl refl
  where
    same : Bool
    same = same_core (section_of g t) (section_of g s)

    go : (a b : Bool) →
        ((base_in bases t).leader == t) ≡ a →
        ((base_in bases t).digest == digest_of g s) ≡ b →
        based g bases s t ≡ (a && (b && same))
    go false b e h = sym (unled_none (base_in bases t) t false same (λ q. both_ways ((base_in bases t).leader == t) e (eq-eqb (base_in bases t).leader t q)) refl)
    go true true e h = sym (led_shares (base_in bases t) t same same (eqb-true (base_in bases t).leader t e) refl)
    go true false e h =
        sym (digest_differs g bases s t small low below (λ q. both_ways ((base_in bases t).digest == digest_of g s) h (eq-eqb (base_in bases t).digest (digest_of g s) q)))

-- the loop over the sections: those below n are done
pub record Filled (g : Graph) (bases : List Base) (n : ℕ) : Type 0 where
  pub sized : length bases ≡ 1024
  pub done : Based g bases n

pub filled_set :
    (g : Graph) (bases : List Base) (n : ℕ) (b : Base) →
    Filled g bases n → n < 1024 → b ≡ base_at g n → Filled g (set bases n b) (n + 1)
filled_set g bases n b f l e =
    record {
      sized = length-set bases n b ∙ f.sized;
      done =
          λ t k.
          ⊎_elim
          (λ lt. get_or-set_other bases n t b (record { leader = 0; digest = 0 }) (λ (q : t ≡ n). omega arith) ∙ f.done t lt)
          (λ le.
          let at : n ≡ t = omega arith in
          subst (λ (x : ℕ). base_in (set bases n b) x ≡ base_at g x) at (here ∙ e))
          (cases_lt t n);
    }
  where
    here : base_in (set bases n b) n ≡ b
    here = get_or-set_same bases n b (record { leader = 0; digest = 0 }) (let k = f.sized in omega arith)

pub filled_start : (g : Graph) → Filled g (replicate 1024 no_base) 0
filled_start g = record { sized = length-replicate {A = Base} 1024 no_base; done = λ t k. absurd (omega arith) }

pub filled_end : (g : Graph) (bases : List Base) (n : ℕ) → Filled g bases n → 1024 ≤ n → Bases g bases
filled_end g bases n f l = record { sized = f.sized; at = λ t k. f.done t (omega arith) }
