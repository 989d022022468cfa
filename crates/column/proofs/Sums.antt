-- A sum over digits, one digit after another.
use Rattle.std.proofs.Common.{◌≡◌, ℕ, ◌+◌, ◌-◌, ◌*◌, ◌^◌, ◌<◌, ◌≤◌, Bool, true, false, cond, leb, List, [], ◌∷◌, ◌++◌, length, Some, None, Option, IfSome, sym, refl, ap, ◌∙◌, subst, arith}
use denote.Param.Members.{Mut}
use Rattle.std.specs.declared.ops.ControlFlow.{ControlFlow}
use Rattle.std.specs.declared.ops.ControlFlow.TheVariants.{Continue, Break}
use Rattle.std.specs.ControlFlow.{continue_value}
use Rattle.std.specs.Fn.{Called, Takes}
use Rattle.std.specs.Option.{MatchOption}
use Rattle.std.specs.List.{FoldsTo}
use Rattle.std.specs.Iterator.{AlwaysYields, Yields, TryFoldTurn, TryFoldsItems, CallableAtEachTurn}
use Rattle.std.proofs.lemmas.Fn.{serves_by}
use Rattle.std.proofs.lemmas.List.{length-append}
use Rattle.std.proofs.lemmas.Iterator.{YieldsList}
use Rattle.std.proofs.lemmas.Iterator.Consumers.{YieldsList-turn}
use Rattle.std.proofs.lemmas.Bool.{and_parts, leb-true}
use Rattle.column.specs.Columns.{is_digit, gathered}
use Rattle.column.proofs.Reading.{digit_more, powers}

-- one digit more, or a byte that is none
abbrev pub one_more : ℕ → ℕ → Option ℕ
one_more sum d = cond (is_digit d) (Some (sum * 10 + (d - 48))) None

gathered_on : (n m d : ℕ) (ds : List ℕ) → one_more n d ≡ Some m → gathered n (d ∷ ds) ≡ gathered m ds
gathered_on n m d ds h = go (is_digit d) h
  where
    go : (b : Bool) → cond b (Some (n * 10 + (d - 48))) None ≡ Some m → cond b (gathered (n * 10 + (d - 48)) ds) None ≡ gathered m ds
    go true e = let same : n * 10 + (d - 48) ≡ m = cc e in ap (λ k. gathered k ds) same
    go false e = cc

gathered_off : (n d : ℕ) (ds : List ℕ) → one_more n d ≡ None → gathered n (d ∷ ds) ≡ None
gathered_off n d ds h = go (is_digit d) h
  where
    go : (b : Bool) → cond b (Some (n * 10 + (d - 48))) None ≡ None → cond b (gathered (n * 10 + (d - 48)) ds) None ≡ None
    go true e = cc
    go false e = refl

more_small : (n m d k : ℕ) → n < 10 ^ k → one_more n d ≡ Some m → m < 10 ^ (k + 1)
more_small n m d k h e = go (is_digit d) refl e
  where
    go : (b : Bool) → is_digit d ≡ b → cond b (Some (n * 10 + (d - 48))) None ≡ Some m → m < 10 ^ (k + 1)
    go true t e =
        let same : n * 10 + (d - 48) ≡ m = cc e in
        let high : d ≤ 57 = leb-true d 57 (and_parts (leb 48 d) (leb d 57) t).1 in
        subst (λ x. x < 10 ^ (k + 1)) same (digit_more n k (d - 48) h (omega (arith, high)))
    go false t e = cc

gathered_small : (ds : List ℕ) (n m k : ℕ) → n < 10 ^ k → gathered n ds ≡ Some m → m < 10 ^ (k + length ds)
gathered_small [] n m k h e =
    let same : n ≡ m = cc e in
    let all : k ≡ k + 0 = omega arith in subst (λ x. m < 10 ^ x) all (subst (λ x. x < 10 ^ k) same h)
gathered_small (d ∷ ds) n m k h e = go (one_more n d) refl (λ p. gathered_small ds p m (k + 1))
  where
    go : (o : Option ℕ)
        → one_more n d ≡ o
        → ((p : ℕ) → p < 10 ^ (k + 1) → gathered p ds ≡ Some m → m < 10 ^ (k + 1 + length ds))
        → m < 10 ^ (k + length (d ∷ ds))
    go None t rest = let z = sym e ∙ gathered_off n d ds t in cc
    go (Some p) t rest =
        let all : k + 1 + length ds ≡ k + length (d ∷ ds) = omega arith in
        subst (λ x. m < 10 ^ x) all (rest p (more_small n p d k h t) (sym (gathered_on n p d ds t) ∙ e))

pub small_sum : (o : Option ℕ) (ds : List ℕ) → length ds ≤ 18 → o ≡ gathered 0 ds → IfSome o (λ n. n < 10 ^ 18)
small_sum None ds few e = tt
small_sum (Some n) ds few e =
    let low : 0 < 10 ^ 0 = omega arith in
    omega (arith, gathered_small ds 0 n 0 low (sym e), powers (0 + length ds) 18 (omega (arith, few)))

-- a closure that adds a digit, at the items of a list of bytes
module _ {S A F : Type 0} (E : Type 0) (steps : S → Option A → S → Type 0) (v : A → ℕ) (g : Mut F (ℕ × (A × Unit {0})) (Option ℕ)) (f : F)
    (acts : (n : ℕ) (x : A) (r : Option ℕ) (q : F) → Called g f (n, (x, tt)) r q → (q ≡ f) × (r ≡ one_more n (v x))) where
  abbrev goes : Option ℕ → ControlFlow E ℕ → Type 0
  goes s r = s ≡ continue_value r

  pub callable : (s : S) (all : List ℕ) → YieldsList steps v s all → length all ≤ 18
      → ((n : ℕ) (x : A) → n < 10 ^ 17 → Takes g f (n, (x, tt)))
      → CallableAtEachTurn {P = F × ℕ} steps (TryFoldTurn g goes) (λ p x. Takes g p.0 (p.1, (x, tt))) s (f, 0)
  callable s all road few takes =
      serves_by (TryFoldTurn g goes) (λ xs q. (q.0 ≡ f) × (q.1 < 10 ^ length xs))
      (λ xs q x w j r.
      let a = acts q.1 x r.0 w.0 (subst (λ k. Called g k (q.1, (x, tt)) r.0 w.0) j.0 r.1) in
      let long : length xs + 1 ≡ length (xs ++ x ∷ []) = omega (arith, length-append xs (x ∷ [])) in
      (a.0, subst (λ k. w.1 < 10 ^ k) long (more_small q.1 w.1 (v x) (length xs) j.1 (sym a.1 ∙ r.2))))
      steps (λ p x. Takes g p.0 (p.1, (x, tt))) s (f, 0) (refl, omega arith)
      (λ xs t q x u y e j.
      let m = YieldsList-turn road xs t y (Some x) u x refl e in
      subst (λ k. Takes g k (q.1, (x, tt))) (sym j.0) (takes q.1 x (omega (arith, j.1, powers (length xs) 17 (omega (arith, m.0, few))))))

  summed : (ys : List ℕ) (xs : List A) (s t u : S) (n a : ℕ) (o : Option A) (q : F) (r : Option ℕ)
      → AlwaysYields steps v s ys → Yields steps s xs t → steps t o u → FoldsTo {P = F × ℕ} (TryFoldTurn g goes) (f, n) xs (q, a)
      → MatchOption o (goes r (Continue a))
      (λ x. (w : Option ℕ) × (h : F) × (e : E) × Called g q (a, (x, tt)) w h × goes w (Break e) × (r ≡ None))
      → r ≡ gathered n ys
  summed [] [] s t u n a None q r road y e c end = end ∙ ap (λ (p : F × ℕ). Some p.1) (sym c)
  summed [] [] s t u n a (Some x) q r road y e c end = absurd (road x u (subst (λ k. steps k (Some x) u) (sym y) e))
  summed [] (x ∷ xs) s t u n a o q r road y e c end = absurd (road x y.0 y.1)
  summed (d ∷ ys) [] s t u n a None q r road y e c end = absurd (road.0 u (subst (λ k. steps k None u) (sym y) e))
  summed (d ∷ ys) [] s t u n a (Some x) q r road y e c end =
      let here = (road.1 x u (subst (λ k. steps k (Some x) u) (sym y) e)).0 in
      let call = subst (λ (p : F × ℕ). Called g p.0 (p.1, (x, tt)) end.0 end.1) (sym c) end.3 in
      let w = (acts n x end.0 end.1 call).1 in
      end.5 ∙ sym (gathered_off n d ys (ap (one_more n) (sym here) ∙ sym w ∙ end.4))
  summed (d ∷ ys) (x ∷ xs) s t u n a o q r road y e c end =
      let next = road.1 x y.0 y.1 in
      let w = acts n x c.1.0 c.0.0 c.1.1 in
      let on : one_more n d ≡ Some c.0.1 = ap (one_more n) (sym next.0) ∙ sym w.1 ∙ c.1.2 in
      summed ys xs y.0 t u c.0.1 a o q r next.1 y.2 e
      (subst (λ k. FoldsTo {P = F × ℕ} (TryFoldTurn g goes) (k, c.0.1) xs (q, a)) w.0 c.2) end
      ∙ sym (gathered_on n c.0.1 d ys on)

  pub gathers : (s u : S) (all : List ℕ) (r : Option ℕ) → YieldsList steps v s all
      → TryFoldsItems steps g goes (λ _ r. r ≡ None) s f 0 r u → r ≡ gathered 0 all
  gathers s u all r road p = summed all p.0 s p.4.0 u 0 p.3 p.1 p.2 r road.runs p.4.1 p.4.2 p.5 p.6
