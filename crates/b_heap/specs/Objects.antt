-- Which fields objects have, and how many bytes objects and arrays take.
use Rattle.std.specs.Prelude.{ℕ, ◌+◌, ◌*◌, ◌/◌, List, reverse, sum_by}
use Rattle.std.specs.List.{flat_map}
use Rattle.jnames.specs.declared.shape.Shape.{Shape}
use Rattle.jnames.specs.Width.{width_of}
use Rattle.jworld.specs.Classes.{World}
use Rattle.jworld.specs.Members.{fields_of}
use Rattle.jworld.specs.Upwards.{upwards}
use Rattle.b_heap.specs.Shapes.{instance_shapes}

-- the instance fields that a class itself declares, by their shapes, in the file's order
abbrev pub own_shapes : World → ℕ → List Shape
own_shapes files class = instance_shapes (fields_of files class)

-- the fields of an object of a class: those of Object first, and then those of each class below it, down to its own
unfoldable pub object_shapes : World → ℕ → List Shape
object_shapes files class = flat_map (own_shapes files) (reverse (upwards files class))

-- rounded up to a multiple of 8
abbrev pub rounded : ℕ → ℕ
rounded n = (n + 7) / 8 * 8

-- the bytes that the fields of one class take
abbrev pub level_cost : List Shape → ℕ
level_cost shapes = rounded (sum_by width_of shapes)

-- an object takes 8 bytes, and for its class and each superclass those of the fields that it declares
unfoldable pub object_cost : World → ℕ → ℕ
object_cost files class = 8 + sum_by (λ c. level_cost (own_shapes files c)) (upwards files class)

-- an array takes 8 bytes and those of its items
unfoldable pub array_cost : Shape → ℕ → ℕ
array_cost shape length = 8 + rounded (length * width_of shape)
