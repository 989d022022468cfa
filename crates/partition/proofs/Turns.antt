-- Round after round, until nothing changes.
use Rattle.std.proofs.Common.{◌≡◌, ℕ, suc, ◌+◌, ◌<◌, ◌≤◌, true, false, List, length, get_or, set, replicate, Some, None, Option, Decides, unwrap_or, sym, refl, ap, ◌∙◌, subst, ⊎_elim, add-one, arith}
use Rattle.std.proofs.lemmas.Bool.{cases_lt, cases_Bool, both_ways, cond-true, cond-false}
use Rattle.std.proofs.lemmas.List.{get_or-set_same, get_or-set_other, length-set, length-replicate, ext_get_or}
use Rattle.std.proofs.lemmas.List.FromFn.{fill_by_all}
use Rattle.model.specs.Graph.{Graph, count_of}
use Rattle.model.specs.Laws.{Valid}
use Rattle.steps.specs.Below.{table}
use Rattle.unfolding.specs.Telling.{look}
use Rattle.unfolding.specs.Groups.{foldable, FoldAble}
use Rattle.unfolding.specs.Sections.{rules, rep, rounds, Stable}
use Rattle.unfolding.proofs.Depths.{narrows}
use Rattle.unfolding.proofs.Marks.{fold_bound, stays_stable}
use Rattle.unfolding.proofs.Classes.{class_itself, class_foldable, class_below, class_lowest, class_same, class_shares, class_rep, rounds_least, rounds_bounded, rounds_stable}
use Rattle.unfolding.proofs.Rules.{lawful_rules}
use Rattle.unfolding.proofs.Theorems.{marks_tell}
use Rattle.partition.specs.declared.Base.{Base}
use Rattle.partition.specs.Classes.{Found, marked_class, Bases, class_at, Classed, Classes, joined, Refined, Turn}
use Rattle.partition.proofs.Next.{round_class}

-- tables that are filled from the first section on

pub record Filling (g : Graph) (k : ℕ) (cs : List ℕ) (n : ℕ) : Type 0 where
  pub sized : length cs ≡ 1024
  pub done : Classed g k cs n

pub filling_set :
    (g : Graph) (k : ℕ) (cs : List ℕ) (n m : ℕ) → Filling g k cs n → n < 1024 → m ≡ class_at g k n → Filling g k (set cs n m) (n + 1)
filling_set g k cs n m f l e =
    record {
      sized = length-set cs n m ∙ f.sized;
      done =
          λ t h.
          ⊎_elim
          (λ lt. get_or-set_other cs n t m 0 (λ (q : t ≡ n). omega arith) ∙ f.done t lt)
          (λ le.
          let at : n ≡ t = omega arith in
          subst (λ (x : ℕ). get_or (set cs n m) x 0 ≡ class_at g k x) at (here ∙ e))
          (cases_lt t n);
    }
  where
    here : get_or (set cs n m) n 0 ≡ m
    here = get_or-set_same cs n m 0 (let h = f.sized in omega arith)

pub filling_start : (g : Graph) (k : ℕ) → Filling g k (replicate 1024 0) 0
filling_start g k = record { sized = length-replicate {A = ℕ} 1024 0; done = λ t h. absurd (omega arith) }

pub filling_end : (g : Graph) (k : ℕ) (cs : List ℕ) (n : ℕ) → Filling g k cs n → 1024 ≤ n → Classes g k cs
filling_end g k cs n f l = record { sized = f.sized; at = λ t h. f.done t (omega arith) }

-- depth 0

first_class : (g : Graph) (m s : ℕ) → Found (foldable g) 0 1024 m → s < 1024 → FoldAble g s → m ≡ class_at g 0 s
first_class g m s f l h =
    let low : m ≤ s = not_before s h in
    let fold : FoldAble g m = f.found (omega arith) in
    let up : class_at g 0 s ≤ m = class_lowest rules lawful_rules g 0 s m h fold (marks_tell.joins g m g s fold h) in
    let down : m ≤ class_at g 0 s = not_before (class_at g 0 s) (class_foldable rules lawful_rules g 0 s h) in
    omega arith
  where
    not_before : (t : ℕ) → FoldAble g t → m ≤ t
    not_before t e =
        ⊎_elim
        (λ lt. absurd (both_ways (foldable g t) (f.before t (omega arith) lt) e))
        (λ le. le)
        (cases_lt t m)

-- the lowest foldable section is the class of each
lowest_class :
    (g : Graph) (r : Option ℕ) (s : ℕ) → Found (foldable g) 0 1024 (unwrap_or r 1024) → s < 1024 → FoldAble g s → unwrap_or r s ≡ class_at g 0 s
lowest_class g None s f l h =
    let at : 1024 ≡ class_at g 0 s = first_class g 1024 s f l h in
    let top : class_at g 0 s ≤ s = class_below rules lawful_rules g 0 s in
    absurd (omega arith)
lowest_class g (Some m) s f l h = first_class g m s f l h

marked_class_at : (g : Graph) (r : Option ℕ) (s : ℕ) → Found (foldable g) 0 1024 (unwrap_or r 1024) → s < 1024 → marked_class g r s ≡ class_at g 0 s
marked_class_at g r s f l =
    ⊎_elim
    (λ h. cond-true (foldable g s) (unwrap_or r s) s h ∙ lowest_class g r s f l h)
    (λ h. cond-false (foldable g s) (unwrap_or r s) s h ∙ sym (class_itself rules lawful_rules g 0 s h))
    (cases_Bool (foldable g s))

pub marked_classes :
    (g : Graph) (r : Option ℕ) (cs : List ℕ) →
    Found (foldable g) 0 1024 (unwrap_or r 1024) →
    length cs ≡ 1024 →
    ((s : ℕ) → s < 1024 → get_or cs s 0 ≡ marked_class g r s) →
    Classes g 0 cs
marked_classes g r cs f sized h = record { sized = sized; at = λ s l. h s l ∙ marked_class_at g r s f l }

-- a round

abbrev pub Refining : Graph → List ℕ → List ℕ → ℕ → Type 0
Refining g old new n = (k : ℕ) → Classes g k old → Filling g (suc k) new n

pub refining_set :
    (g : Graph) → Valid g → (bases : List Base) (old new : List ℕ) (n m : ℕ) →
    Bases g bases →
    Refining g old new n →
    n < 1024 →
    Found (joined g bases old new n) (get_or old n 0) n m →
    Refining g old (set new n m) (n + 1)
refining_set g v bases old new n m b r l f k c =
    let h = r k c in
    filling_set g (suc k) new n m h l (round_class g v k old c bases new n m b h.done l f)

-- the end

module _ (g : Graph) (k : ℕ) (old new : List ℕ) (c : Classes g k old) (d : Classes g (suc k) new) where
  still_stable : new ≡ old → Valid g → Stable g k
  still_stable same v =
      record {
        finer =
            λ s t h f e.
            class_shares rules lawful_rules g (suc k) s t
            (sym (kept s h) ∙ (class_same rules lawful_rules g k s t h f e ∙ kept t f));
        coarser = λ s t h f. narrows (look rules g) (look rules g) k s t;
      }
    where
      kept : (s : ℕ) → FoldAble g s → class_at g k s ≡ class_at g (suc k) s
      kept s h =
          let low : s < 1024 = (let b = fold_bound g s h in let n = v.few in omega arith) in
          sym (c.at s low) ∙ (ap (λ (xs : List ℕ). get_or xs s 0) (sym same) ∙ d.at s low)

  stable_still : Stable g k → new ≡ old
  stable_still h =
      ext_get_or
      0
      new
      old
      (d.sized ∙ sym c.sized)
      (λ s l.
      let k' = d.sized in
      d.at s (omega arith) ∙
      (class_rep rules lawful_rules g (suc k) s (stays_stable rules lawful_rules g k (suc k) h (omega arith)) ∙
      (sym (class_rep rules lawful_rules g k s h) ∙ sym (c.at s (omega arith)))))

pub turn_next : (g : Graph) (k : ℕ) (old new : List ℕ) → Turn g k old → Refined g old new → Decides false (new ≡ old) → Turn g (k + 1) new
turn_next g k old new t r s =
    let next = r k t.classes in
    subst (λ (n : ℕ). Turn g n new) (sym (add-one k))
    (record {
      classes = next;
      early =
          ⊎_elim
          (λ lt. lt)
          (λ le.
          let at : rounds g ≡ k = (let e = t.early in omega arith) in
          let moved : false ≡ true = s.1 (stable_still g k old new t.classes next (subst (Stable g) at (rounds_stable rules lawful_rules g))) in
          let z : ◌≡◌ {A = ℕ} 0 1 = cc in
          absurd (omega arith))
          (cases_lt k (rounds g));
    })

pub record Settled (g : Graph) (k : ℕ) (cs : List ℕ) : Type 0 where
  pub classes : cs ≡ table (rep g) 1024
  pub rounds : k ≡ rounds g

settled : (g : Graph) (k : ℕ) (cs : List ℕ) → Turn g k cs → Stable g k → Settled g k cs
settled g k cs t h =
    record {
      classes =
          fill_by_all (rep g) cs 1024 0 t.classes.sized (λ s l. t.classes.at s l ∙ class_rep rules lawful_rules g k s h);
      rounds = let e = t.early in let f = rounds_least rules lawful_rules g k h in omega arith;
    }

pub turn_last : (g : Graph) → Valid g → (k : ℕ) (old new : List ℕ) → Turn g k old → Refined g old new → Decides true (new ≡ old) → Settled g k old
turn_last g v k old new t r s =
    settled g k old t (still_stable g k old new t.classes (r k t.classes) (s.0 refl) v)

-- as many rounds as there are sections are enough
pub turn_end : (g : Graph) (k : ℕ) (cs : List ℕ) → Turn g k cs → count_of g ≤ k → Settled g k cs
turn_end g k cs t l =
    let at : rounds g ≡ k = (let e = t.early in let f = rounds_bounded rules lawful_rules g in omega arith) in
    settled g k cs t (subst (Stable g) at (rounds_stable rules lawful_rules g))

pub rounds_end : (g : Graph) (k n : ℕ) (cs : List ℕ) → Turn g k cs → n ≡ count_of g → n ≤ k → k ≤ n → n ≡ rounds g
rounds_end g k n cs t e low high = let h = (turn_end g k cs t (omega arith)).rounds in omega arith
