-- The numbers of the refusals and of the layers that they come from.
use Rattle.std.specs.Prelude.{ℕ}
use Rattle.fault.specs.declared.Kind.{Kind}
use Rattle.fault.specs.declared.Kind.TheVariants.{Short, Foreign, Oversize, Dangling, Misshapen, BadRow, Closed, NoSection, Bound, Full, Small}
use Rattle.fault.specs.declared.Layer.{Layer}
use Rattle.fault.specs.declared.Layer.TheVariants.{Field, Format, Pile, Output}

abbrev pub kind_number : Kind → ℕ
kind_number Short = 1
kind_number Foreign = 2
kind_number Oversize = 3
kind_number Dangling = 4
kind_number Misshapen = 5
kind_number BadRow = 6
kind_number Closed = 7
kind_number NoSection = 8
kind_number Bound = 9
kind_number Full = 10
kind_number Small = 11

abbrev pub layer_number : Layer → ℕ
layer_number Field = 1
layer_number Format = 2
layer_number Pile = 3
layer_number Output = 4
