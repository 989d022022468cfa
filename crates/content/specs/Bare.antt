-- A relocation but for the section that it points at, as a value of its own.
use Rattle.model.specs.declared.Relocation.{Relocation}
use Rattle.model.specs.Graph.{outside_named}
use Rattle.content.specs.declared.Bare.{Bare}

abbrev pub bare_of : Relocation → Bare
bare_of r = record { offset = r.offset; kind = r.kind; displacement = r.displacement; outside = outside_named r.target }
