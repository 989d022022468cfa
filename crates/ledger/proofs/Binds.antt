-- Finding a name among the binds, and what the binds make of a target.
use Rattle.std.proofs.Common.{◌≡◌, ℕ, Bool, true, false, cond, ◌||◌, eqb, List, [], ◌∷◌, ◌++◌, map, is_some, Some, Option, sym, refl, ap, ◌∙◌, ⊎_elim}
use Rattle.std.specs.List.{find}
use Rattle.std.specs.Option.{option_map, option_map_or}
use Rattle.std.proofs.lemmas.Bool.{cases_Bool, eqb-true, eqb-false, eq-eqb, ne_eqb}
use Rattle.model.specs.declared.Target.{Target}
use Rattle.model.specs.declared.Target.TheVariants.{Section, Outside}
use Rattle.unfolding.specs.Reach.{has}
use Rattle.runs.specs.Drawn.{bound_target}
use Rattle.ledger.specs.declared.Bind.{Bind}
use Rattle.ledger.specs.Told.{bound_by_all}

-- the section of the first bind of name e
abbrev pub section_in : List Bind → ℕ → Option ℕ
section_in bs e = option_map (λ b. b.section) (find (λ b. eqb b.name e) bs)

pub has_names : (bs : List Bind) (e : ℕ) → is_some (section_in bs e) ≡ has (map (λ b. b.name) bs) e
has_names [] e = refl
has_names (b ∷ bs) e = go (eqb b.name e) (has_names bs e)
  where
    go :
        (c : Bool) →
        is_some (section_in bs e) ≡ has (map (λ b. b.name) bs) e →
        is_some (option_map (λ b. b.section) (cond c (Some b) (find (λ b. eqb b.name e) bs))) ≡ (c || has (map (λ b. b.name) bs) e)
    go true rest = refl
    go false rest = rest

pub bound_section : (bs : List Bind) (t : ℕ) → Section t ≡ bound_by_all bs (Section t)
bound_section [] t = refl
bound_section (b ∷ bs) t = bound_section bs t

eqb_swap : (a b : ℕ) → eqb a b ≡ eqb b a
eqb_swap a b =
    ⊎_elim
    (λ e. e ∙ sym (eq-eqb b a (sym (eqb-true a b e))))
    (λ e. e ∙ sym (ne_eqb b a (λ f. eqb-false a b e (sym f))))
    (cases_Bool (eqb a b))

pub bound_outside : (bs : List Bind) (e : ℕ) → option_map_or Section (section_in bs e) (Outside e) ≡ bound_by_all bs (Outside e)
bound_outside [] e = refl
bound_outside (b ∷ bs) e =
    go (eqb b.name e) (bound_outside bs e) ∙ ap (λ (c : Bool). bound_by_all bs (cond c (Section b.section) (Outside e))) (eqb_swap b.name e)
  where
    go :
        (c : Bool) →
        option_map_or Section (section_in bs e) (Outside e) ≡ bound_by_all bs (Outside e) →
        option_map_or Section (option_map (λ b. b.section) (cond c (Some b) (find (λ b. eqb b.name e) bs))) (Outside e) ≡
        bound_by_all bs (cond c (Section b.section) (Outside e))
    go true rest = bound_section bs b.section
    go false rest = rest

-- one more bind
pub bound_push : (bs : List Bind) (b : Bind) (x : Target) → bound_by_all (bs ++ b ∷ []) x ≡ bound_target b.name b.section (bound_by_all bs x)
bound_push [] b x = refl
bound_push (c ∷ bs) b x = bound_push bs b (bound_target c.name c.section x)
