-- The fields of one class in a table, by how many fields stand before each.
use Rattle.std.specs.Prelude.{ℕ, ◌+◌, List, [], ◌∷◌, length, if◌then◌else◌}
use Rattle.classfile.specs.ClassFile.{FieldInfo}
use Rattle.jworld.specs.Classes.{World}
use Rattle.jworld.specs.Members.{fields_of}
use Rattle.b_heap.specs.declared.places.Place.{Place}
use Rattle.b_heap.specs.declared.places.Before.{Before}
use Rattle.b_heap.specs.Shapes.{shape_in, is_static}
use Rattle.b_heap.specs.Places.{shapes_above, statics_before}

abbrev pub place_by : Before → FieldInfo → Place
place_by before field = record { at = if is_static field then before.statics else before.slots; shape = shape_in field; is_static = is_static field }

abbrev pub behind : Before → FieldInfo → Before
behind before field = record { slots = if is_static field then before.slots else before.slots + 1; statics = if is_static field then before.statics + 1 else before.statics }

unfoldable pub places_from : Before → List FieldInfo → List Place
places_from before [] = []
places_from before (field ∷ fields) = place_by before field ∷ places_from (behind before field) fields

abbrev pub row_of : World → ℕ → List Place
row_of files class = places_from (record { slots = length (shapes_above files class); statics = statics_before files class }) (fields_of files class)
