-- A graph whose sections are made anew, each by its number and what it was.
use Rattle.std.proofs.Common.{◌≡◌, ℕ, length, get_or, None, Option, sym, ap, ◌∙◌, ⊎_elim}
use Rattle.std.proofs.lemmas.Bool.{cases_lt}
use Rattle.std.proofs.lemmas.List.{get_or_past, ext_get_or}
use Rattle.model.specs.Graph.{Body, Graph, section_of, count_of}
use Rattle.steps.proofs.Below.{table_at, table_length, table_past}
use Rattle.unfolding.specs.Groups.{rebuilt}

pub rebuilt_length : (f : ℕ → Option Body → Option Body) (g : Graph) → length (rebuilt f g) ≡ count_of g
rebuilt_length f g = table_length (λ s. f s (section_of g s)) (count_of g)

-- every number, also past the count
pub rebuilt_at :
    (f : ℕ → Option Body → Option Body) (g : Graph) →
    ((s : ℕ) → f s None ≡ None) →
    (s : ℕ) →
    get_or (rebuilt f g) s None ≡ f s (section_of g s)
rebuilt_at f g none s =
    ⊎_elim
    (λ lt. table_at (λ i. f i (section_of g i)) (count_of g) s None lt)
    (λ le.
    table_past (λ i. f i (section_of g i)) (count_of g) s None le ∙
    sym (ap (f s) (get_or_past g.sections s None le) ∙ none s))
    (cases_lt s (count_of g))

-- where each section stays what it was, the list does
pub rebuilt_same :
    (f : ℕ → Option Body → Option Body) (g : Graph) →
    ((s : ℕ) → f s None ≡ None) →
    ((s : ℕ) → f s (section_of g s) ≡ section_of g s) →
    rebuilt f g ≡ g.sections
rebuilt_same f g none same =
    ext_get_or None (rebuilt f g) g.sections (rebuilt_length f g) (λ s _. rebuilt_at f g none s ∙ same s)
