-- Counting the numbers below a bound that pass a test: parts, rising families, and injections.
use Rattle.std.proofs.Common.{◌≡◌, ℕ, zero, suc, ◌+◌, ◌<◌, ◌≤◌, Bool, true, false, cond, not, ◌&&◌, eqb, ◌⊎◌, sym, refl, ap, ◌∙◌, subst, inl, inr, ⊎_elim, arith}
use Rattle.std.proofs.lemmas.Bool.{cases_lt, both_ways, eq-eqb, ne_eqb, and_from}
use Rattle.steps.specs.Below.{count_below}

pub count_yes : (p : ℕ → Bool) (n : ℕ) → p n ≡ true → count_below p (suc n) ≡ suc (count_below p n)
count_yes p n e = rw e

pub count_no : (p : ℕ → Bool) (n : ℕ) → p n ≡ false → count_below p (suc n) ≡ count_below p n
count_no p n e = rw e

pub count_bounded : (p : ℕ → Bool) (n : ℕ) → count_below p n ≤ n
count_bounded p zero = omega arith
count_bounded p (suc n) = go (p n) refl (count_bounded p n)
  where
    go : (b : Bool) → p n ≡ b → count_below p n ≤ n → count_below p (suc n) ≤ suc n
    go true e h = rw (count_yes p n e) (omega arith)
    go false e h = rw (count_no p n e) (omega arith)

-- tests that agree below the bound count the same
pub count_same : (p q : ℕ → Bool) (n : ℕ) → ((k : ℕ) → k < n → p k ≡ q k) → count_below p n ≡ count_below q n
count_same p q zero h = refl
count_same p q (suc n) h = go (h n (omega arith)) (count_same p q n (λ k l. h k (omega arith)))
  where
    go : p n ≡ q n → count_below p n ≡ count_below q n → count_below p (suc n) ≡ count_below q (suc n)
    go e f = rw (e, f)

-- what passes p passes q or not
pub count_parts :
    (p q : ℕ → Bool) (n : ℕ) → count_below p n ≡ count_below (λ k. p k && q k) n + count_below (λ k. p k && not (q k)) n
count_parts p q zero = omega arith
count_parts p q (suc n) = go (p n) (q n) (count_parts p q n)
  where
    go :
        (a b : Bool) →
        count_below p n ≡ count_below (λ k. p k && q k) n + count_below (λ k. p k && not (q k)) n →
        cond a (suc (count_below p n)) (count_below p n) ≡
        cond (a && b) (suc (count_below (λ k. p k && q k) n)) (count_below (λ k. p k && q k) n) +
        cond (a && not b) (suc (count_below (λ k. p k && not (q k)) n)) (count_below (λ k. p k && not (q k)) n)
    go true true h = omega arith
    go true false h = omega arith
    go false true h = omega arith
    go false false h = omega arith

-- the larger set counts more, and as much only if it is the same

pub count_more : (p q : ℕ → Bool) (n : ℕ) → ((k : ℕ) → k < n → p k ≡ true → q k ≡ true) → count_below p n ≤ count_below q n
count_more p q zero h = omega arith
count_more p q (suc n) h = go (p n) refl (q n) refl (count_more p q n (λ k l. h k (omega arith)))
  where
    go : (a : Bool) → p n ≡ a → (b : Bool) → q n ≡ b → count_below p n ≤ count_below q n → count_below p (suc n) ≤ count_below q (suc n)
    go true e true f m = rw (count_yes p n e, count_yes q n f) (omega arith)
    go true e false f m = absurd (both_ways (q n) f (h n (omega arith) e))
    go false e true f m = rw (count_no p n e, count_yes q n f) (omega arith)
    go false e false f m = rw (count_no p n e, count_no q n f) m

pub count_full :
    (p q : ℕ → Bool) (n : ℕ) →
    ((k : ℕ) → k < n → p k ≡ true → q k ≡ true) →
    count_below q n ≤ count_below p n →
    (k : ℕ) →
    k < n →
    q k ≡ true →
    p k ≡ true
count_full p q zero h c k l e = absurd (omega arith)
count_full p q (suc n) h c k l e =
    go (p n) refl (q n) refl (count_more p q n (λ i m. h i (omega arith))) (λ d. count_full p q n (λ i m. h i (omega arith)) d k)
  where
    here : p n ≡ q n → (k < n → q k ≡ true → p k ≡ true) → p k ≡ true
    here same below =
        ⊎_elim
        (λ lt. below lt e)
        (λ le.
        let at : n ≡ k = omega arith in
        subst (λ (x : ℕ). p x ≡ q x) at same ∙ e)
        (cases_lt k n)

    go :
        (a : Bool) →
        p n ≡ a →
        (b : Bool) →
        q n ≡ b →
        count_below p n ≤ count_below q n →
        (count_below q n ≤ count_below p n → k < n → q k ≡ true → p k ≡ true) →
        p k ≡ true
    go true a true b m f =
        here (a ∙ sym b) (f (let d : suc (count_below q n) ≤ suc (count_below p n) = rw (← (count_yes q n b), ← (count_yes p n a)) c in omega arith))
    go true a false b m f = absurd (both_ways (q n) b (h n (omega arith) a))
    go false a true b m f =
        absurd (let d : suc (count_below q n) ≤ count_below p n = rw (← (count_yes q n b), ← (count_no p n a)) c in omega arith)
    go false a false b m f =
        here (a ∙ sym b) (f (let d : count_below q n ≤ count_below p n = rw (← (count_no q n b), ← (count_no p n a)) c in d))

-- a set that only grows from step to step stands still, below n, at some step not after n
pub rising :
    (p : ℕ → ℕ → Bool) (n : ℕ) →
    ((k s : ℕ) → p k s ≡ true → p (suc k) s ≡ true) →
    (k : ℕ) × (k ≤ n) × ((s : ℕ) → s < n → p (suc k) s ≡ true → p k s ≡ true)
rising p n grows = ⊎_elim (λ h. (h.0, omega arith, h.2)) (λ h. absurd (omega (arith, count_bounded (p (suc n)) n))) (climb (suc n))
  where
    next :
        (m : ℕ) →
        ((k : ℕ) × (k < m) × ((s : ℕ) → s < n → p (suc k) s ≡ true → p k s ≡ true)) ⊎ (m ≤ count_below (p m) n) →
        ((k : ℕ) × (k < suc m) × ((s : ℕ) → s < n → p (suc k) s ≡ true → p k s ≡ true)) ⊎ (suc m ≤ count_below (p (suc m)) n)
    next m (inl h) = inl (h.0, omega arith, h.2)
    next m (inr h) =
        ⊎_elim
        (λ lt. inr (omega arith))
        (λ le. inl (m, omega arith, count_full (p m) (p (suc m)) n (λ s _. grows m s) le))
        (cases_lt (count_below (p m) n) (count_below (p (suc m)) n))

    climb : (m : ℕ) → ((k : ℕ) × (k < m) × ((s : ℕ) → s < n → p (suc k) s ≡ true → p k s ≡ true)) ⊎ (m ≤ count_below (p m) n)
    climb zero = inr (omega arith)
    climb (suc m) = next m (climb m)

-- one taken out of a set that has it
pub count_removed :
    (q : ℕ → Bool) (m t : ℕ) → t < m → q t ≡ true → count_below q m ≡ suc (count_below (λ x. q x && not (eqb x t)) m)
count_removed q zero t l e = absurd (omega arith)
count_removed q (suc m) t l e = ⊎_elim (λ lt. below (q m) refl (count_removed q m t lt e) lt) here (cases_lt t m)
  where
    rest : ℕ → Bool
    rest x = q x && not (eqb x t)

    kept : (x : ℕ) → (x ≡ t → ⊥) → rest x ≡ q x
    kept x ne = rw (ne_eqb x t ne) (and_true (q x))
      where
        and_true : (b : Bool) → (b && true) ≡ b
        and_true true = refl
        and_true false = refl

    gone : rest t ≡ false
    gone = rw (eq-eqb t t refl, e)

    below : (b : Bool) → q m ≡ b → count_below q m ≡ suc (count_below rest m) → t < m → count_below q (suc m) ≡ suc (count_below rest (suc m))
    below true f h lt = count_yes q m f ∙ ap suc (h ∙ sym (count_yes rest m (kept m (omega arith) ∙ f)))
    below false f h lt = count_no q m f ∙ (h ∙ ap suc (sym (count_no rest m (kept m (omega arith) ∙ f))))

    here : m ≤ t → count_below q (suc m) ≡ suc (count_below rest (suc m))
    here le =
        let at : t ≡ m = omega arith in
        count_yes q m (subst (λ (x : ℕ). q x ≡ true) at e) ∙
        ap suc (count_same q rest m (λ k l. sym (kept k (omega arith))) ∙ sym (count_no rest m (subst (λ (x : ℕ). rest x ≡ false) at gone)))

-- each of one set is related to one of another, and no two to the same: the other is at least as large
pub count_injection :
    (R : ℕ → ℕ → Type 0) →
    ((s s' t : ℕ) → R s t → R s' t → s ≡ s') →
    (p : ℕ → Bool) (n : ℕ) (q : ℕ → Bool) (m : ℕ) →
    ((s : ℕ) → s < n → p s ≡ true → (t : ℕ) × (t < m) × (q t ≡ true) × R s t) →
    count_below p n ≤ count_below q m
count_injection R one p zero q m f = omega arith
count_injection R one p (suc n) q m f = go (p n) refl (λ q' g. count_injection R one p n q' m g)
  where
    go :
        (b : Bool) →
        p n ≡ b →
        ((q' : ℕ → Bool) → ((s : ℕ) → s < n → p s ≡ true → (t : ℕ) × (t < m) × (q' t ≡ true) × R s t) → count_below p n ≤ count_below q' m) →
        count_below p (suc n) ≤ count_below q m
    go false e again = rw (count_no p n e) (again q (λ s l. f s (omega arith)))
    go true e again =
        let image = f n (omega arith) e in
        let fewer : count_below p n ≤ count_below (λ x. q x && not (eqb x image.0)) m =
        again (λ x. q x && not (eqb x image.0)) (other image.0 image.3) in
        rw (count_yes p n e, count_removed q m image.0 image.1 image.2) (omega arith)
      where
        other :
            (t : ℕ) →
            R n t →
            (s : ℕ) →
            s < n →
            p s ≡ true →
            (t' : ℕ) × (t' < m) × ((q t' && not (eqb t' t)) ≡ true) × R s t'
        other t r s l h =
            let im = f s (omega arith) h in
            let ne : im.0 ≡ t → ⊥ =
            λ same.
            let z : s ≡ n = one s n t (subst (λ (x : ℕ). R s x) same im.3) r in
            omega arith in
            (im.0, im.1, and_from (q im.0) (not (eqb im.0 t)) im.2 (rw (ne_eqb im.0 t ne)), im.3)
