-- The sections that relocations point at, by their classes.
use Rattle.std.specs.Prelude.{ℕ, Bool, true, cond, List, ◌==◌, nat_lt, slice_index}
use Rattle.model.specs.declared.Target.{Target}
use Rattle.model.specs.declared.Target.TheVariants.{Section, Outside}
use Rattle.model.specs.declared.Relocation.{Relocation}

-- the class of section t in a list of classes, 0 past the 1,024th
abbrev pub class_in : List ℕ → ℕ → ℕ
class_in cs t = cond (nat_lt t 1024) (slice_index cs t) 0

-- two targets that are both sections are of one class
abbrev pub same_aim_at : List ℕ → Target → Target → Bool
same_aim_at cs (Section a) (Section b) = class_in cs a == class_in cs b
same_aim_at cs (Section a) (Outside f) = true
same_aim_at cs (Outside e) b = true

abbrev pub same_aim : List ℕ → Relocation → Relocation → Bool
same_aim cs r q = same_aim_at cs r.target q.target
