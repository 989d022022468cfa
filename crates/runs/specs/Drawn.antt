-- What a bind, a pin and a root do to a section graph.
use Rattle.std.specs.Prelude.{ℕ, cond, [], ◌∷◌, ◌++◌, ◌==◌}
use Rattle.std.specs.Option.{option_map}
use Rattle.model.specs.declared.Setting.TheVariants.{Pinned}
use Rattle.model.specs.declared.Target.{Target}
use Rattle.model.specs.declared.Target.TheVariants.{Section, Outside}
use Rattle.model.specs.Graph.{Body, Graph}
use Rattle.unfolding.specs.Groups.{aimed, rebuilt}
use Rattle.calls.specs.declared.Call.{Call}
use Rattle.calls.specs.declared.Call.TheVariants.{Bind, Pin, Root, Sweep, Fold}

-- a target, where outside name e is section s
abbrev pub bound_target : ℕ → ℕ → Target → Target
bound_target e s (Section t) = Section t
bound_target e s (Outside x) = cond (x == e) (Section s) (Outside x)

-- each relocation to outside name e has section s as its target
abbrev pub bind : ℕ → ℕ → Graph → Graph
bind e s g = record g { sections = rebuilt (λ _ b. option_map (aimed (bound_target e s)) b) g }

abbrev pub as_pinned : Body → Body
as_pinned b = record b { setting = Pinned }

-- section s is pinned
abbrev pub pin : ℕ → Graph → Graph
pin s g = record g { sections = rebuilt (λ t b. cond (t == s) (option_map as_pinned b) b) g }

-- section s is added at the end of the roots
abbrev pub root : ℕ → Graph → Graph
root s g = record g { roots = g.roots ++ s ∷ [] }

-- what a call that is not refused does to the drawn graph, which a sweep and a fold leave alone
abbrev pub drawn_by : Call → Graph → Graph
drawn_by (Bind e s) g = bind e s g
drawn_by (Pin s) g = pin s g
drawn_by (Root s) g = root s g
drawn_by Sweep g = g
drawn_by Fold g = g
