-- The static fields of a domain (JVMS SE 8, 2.5.3 and 4.7.2): a value for each static field of the world.
use Rattle.std.specs.Prelude.{◌%◌, ◌^◌, ℤ, nat_lt, List, map, filter, length, Option, Some, None, slice_get, slice_set, if◌then◌else◌}
use Rattle.jnames.specs.Bytes.{◌>>=◌}
use Rattle.std.specs.List.{flat_map, range_with_len}
use Rattle.std.specs.Int.{w32, w64, cast_signed, cast_unsigned}
use Rattle.classfile.specs.ClassFile.{FieldInfo}
use Rattle.jnames.specs.declared.shape.Shape.{Shape}
use Rattle.jnames.specs.declared.shape.Shape.TheVariants as shape
use Rattle.jworld.specs.declared.ids.FieldId.{FieldId}
use Rattle.jworld.specs.Classes.{World, count}
use Rattle.jworld.specs.Members.{fields_of}
use Rattle.values.specs.declared.value.Value.{Value}
use Rattle.values.specs.declared.value.Value.TheVariants as value
use Rattle.values.specs.Values.{zero_of, kept_as}
use Rattle.b_heap.specs.declared.places.Place.{Place}
use Rattle.b_heap.specs.Shapes.{shape_in, is_static}
use Rattle.b_heap.specs.Places.{place_of}

-- the constant of a long field, or the int of another's
abbrev pub constant_of : Shape → ℤ → Value
constant_of shape.Long number = value.Long number
constant_of _ number = value.Int (cast_signed w32 (cast_unsigned w64 number % 2 ^ 32))

-- a static field holds its ConstantValue at first, as a store would keep it, or zero
abbrev pub first_by : Shape → Option ℤ → Value
first_by shape None = zero_of shape
first_by shape (Some number) = kept_as shape (constant_of shape number)

abbrev pub first_value : FieldInfo → Value
first_value field = first_by (shape_in field) field.constant

-- the static fields of these
abbrev pub first_values : List FieldInfo → List Value
first_values fields = map first_value (filter is_static fields)

-- those of each class, in the order of their numbers
unfoldable pub first_statics : World → List Value
first_statics files = flat_map (λ class. first_values (fields_of files class)) (range_with_len 0 (count files))

abbrev pub static_place : World → FieldId → Option Place
static_place files field = do
  place ← place_of files field
  if place.is_static then Some place else None

-- the value of a static field (6.5 getstatic)
unfoldable pub static_value : World → List Value → FieldId → Option Value
static_value files values field = do
  place ← static_place files field
  slice_get values place.at

unfoldable pub with_static : World → List Value → FieldId → Value → Option (List Value)
with_static files values field value = do
  place ← static_place files field
  if nat_lt place.at (length values) then Some (slice_set values place.at (kept_as place.shape value)) else None
