-- The shapes of fields (JVMS SE 8, 4.3.2 and 4.5).
use Rattle.std.specs.Prelude.{ℕ, Bool, not, List, [], ◌∷◌, map, filter, unwrap_or, ◌==◌, if◌then◌else◌}
use Rattle.jnames.specs.declared.shape.Shape.{Shape}
use Rattle.jnames.specs.declared.shape.Shape.TheVariants as shape
use Rattle.jnames.specs.Types.{base_shape}
use Rattle.classfile.specs.ClassFile.{FieldInfo}
use Rattle.jworld.specs.Classes.{is_set}

-- the first byte of a descriptor is the letter of a base type, [ of an array, or L of a class
abbrev pub shape_at : ℕ → Shape
shape_at b = if b == 91 then shape.Array else unwrap_or (base_shape b) shape.Class

abbrev pub shape_of : List ℕ → Shape
shape_of [] = shape.Class
shape_of (b ∷ rest) = shape_at b

abbrev pub shape_in : FieldInfo → Shape
shape_in field = shape_of field.descriptor

-- ACC_STATIC (4.5)
abbrev pub is_static : FieldInfo → Bool
is_static field = is_set field.flags 0x0008

abbrev pub is_instance : FieldInfo → Bool
is_instance field = not (is_static field)

-- the shapes of the instance fields among these, in their order
abbrev pub instance_shapes : List FieldInfo → List Shape
instance_shapes fields = map shape_in (filter is_instance fields)
