-- How many bytes a value takes in a field or an array.
use Rattle.std.specs.Prelude.{ℕ}
use Rattle.jnames.specs.declared.shape.Shape.{Shape}
use Rattle.jnames.specs.declared.shape.Shape.TheVariants as shape

abbrev pub width_of : Shape → ℕ
width_of shape.Bool = 1
width_of shape.Byte = 1
width_of shape.Char = 2
width_of shape.Short = 2
width_of shape.Int = 4
width_of shape.Long = 8
width_of shape.Float = 4
width_of shape.Double = 8
width_of shape.Class = 4
width_of shape.Array = 4
