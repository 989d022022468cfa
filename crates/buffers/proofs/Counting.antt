-- What a sweep and a fold answer, and what they leave, told together.
use Rattle.std.proofs.Common.{◌≡◌, ℕ, length, ap, ◌∙◌}
use Rattle.calls.specs.declared.Call.TheVariants.{Sweep, Fold}
use Rattle.calls.specs.declared.Answer.{Answer}
use Rattle.calls.specs.declared.Answer.TheVariants.{Dropped, Merged}
use Rattle.unfolding.specs.Groups.{present_count}
use Rattle.unfolding.specs.Reach.{dropped}
use Rattle.unfolding.specs.Sections.{rounds, folded, merged}
use Rattle.layout.specs.Layout.{text_of}
use Rattle.foldmap.specs.Map.{map_text}
use Rattle.runs.specs.State.{State, step, answer}
use Rattle.buffers.specs.declared.Done.{Done}
use Rattle.buffers.specs.Outcome.{finished, done_from}

pub counted :
    (s0 s1 s2 : State) (p d q m r x y : ℕ) →
    s1 ≡ step s0 Sweep →
    Dropped p d ≡ answer s0 Sweep →
    s2 ≡ step s1 Fold →
    Merged q m r ≡ answer s1 Fold →
    x ≡ length (text_of s2.graph) →
    y ≡ length (map_text s2) →
    record { table = x; map = y; present = q; dropped = d; merged = m; rounds = r } ≡ done_from s0
unfolding finished done_from
counted s0 s1 s2 p d q m r x y swept drops folds joins table map =
    let end : s2 ≡ step (step s0 Sweep) Fold = folds ∙ ap (λ (s : State). step s Fold) swept in
    let answered : Merged q m r ≡ answer (step s0 Sweep) Fold = joins ∙ ap (λ (s : State). answer s Fold) swept in
    let long = table ∙ ap (λ (s : State). length (text_of s.graph)) end in
    let wide = map ∙ ap (λ (s : State). length (map_text s)) end in
    let gone : d ≡ dropped s0.graph = cc in
    let left : q ≡ present_count (folded (step s0 Sweep).graph) = cc in
    let joined : m ≡ merged (step s0 Sweep).graph = cc in
    let depth : r ≡ rounds (step s0 Sweep).graph = cc in
    λ i. record { table = long i; map = wide i; present = left i; dropped = gone i; merged = joined i; rounds = depth i }
