-- Arrays (JVMS SE 8, 4.10.1.9): an array's type is its descriptor, and Null is an array of each kind.
use Rattle.std.specs.Prelude.{ℕ, Bool, true, false, List, [], ◌∷◌, ◌++◌, drop, Option, Some, None, bytes_eq, codes, ◌==◌, ◌||◌, if◌then◌else◌}
use Rattle.classfile.specs.Pool.{◌>>=◌, class_name}
use Rattle.jnames.specs.declared.shape.Shape.{Shape}
use Rattle.jnames.specs.declared.shape.Shape.TheVariants as shape
use Rattle.stackmap.specs.declared.vtype.VType.{VType}
use Rattle.stackmap.specs.declared.vtype.VType.TheVariants.{Integer, Long, Null, Object}
use Rattle.jworld.specs.Classes.{World}
use Rattle.jworld.specs.Subtype.{is_reference, reference_in}
use Rattle.type_states.specs.declared.state.TypeState.{TypeState}
use Rattle.typing_rules.specs.Environment.{Environment}
use Rattle.typing_rules.specs.Rules.Transition.{popped, pushed, taken, transition}

abbrev pub object_type : VType
object_type = Object (codes "java/lang/Object")

abbrev pub begins_array : List ℕ → Bool
begins_array [] = false
begins_array (c ∷ rest) = c == 91

-- an array of arrays or of objects
abbrev pub is_array_of_references : List ℕ → Bool
is_array_of_references [] = false
is_array_of_references (c ∷ items) = if c == 91 then is_reference items else false

-- whether a descriptor is of an array that instructions of this shape serve: those of a byte serve booleans too
abbrev pub is_array_of : Shape → List ℕ → Bool
is_array_of shape.Byte name = bytes_eq name (codes "[B") || bytes_eq name (codes "[Z")
is_array_of shape.Char name = bytes_eq name (codes "[C")
is_array_of shape.Short name = bytes_eq name (codes "[S")
is_array_of shape.Int name = bytes_eq name (codes "[I")
is_array_of shape.Long name = bytes_eq name (codes "[J")
is_array_of shape.Class name = is_array_of_references name
is_array_of _ name = false

-- what an item of an array of this shape is, if it is no reference
abbrev pub number_of : Shape → VType
number_of shape.Long = Long
number_of _ = Integer

-- the item of an array with this descriptor
abbrev pub item_in : Shape → List ℕ → VType
item_in shape.Class name = Object (reference_in (drop 1 name))
item_in shape name = number_of shape

abbrev pub item_of_null : Shape → VType
item_of_null shape.Class = Null
item_of_null shape = number_of shape

abbrev pub item_of : Shape → VType → Option VType
item_of shape Null = Some (item_of_null shape)
item_of shape (Object name) = if is_array_of shape name then Some (item_in shape name) else None
item_of shape _ = None

-- the item of the array on the top, and the state without it
abbrev pub array_popped : Shape → TypeState → Option (VType × TypeState)
array_popped shape state = do
  array ← popped state
  item ← item_of shape array.0
  Some (item, array.1)

abbrev pub item_loaded : World → Shape → TypeState → Option TypeState
item_loaded files shape state = do
  rest ← taken files Integer state
  item ← array_popped shape rest
  Some (pushed item.0 item.1)

-- what may be stored in an array of this shape: in one of references everything that is one (4.10.1.9, aastore)
abbrev pub stored_in : Shape → VType
stored_in shape.Class = object_type
stored_in shape = number_of shape

abbrev pub item_stored : World → Shape → TypeState → Option TypeState
item_stored files shape state = do
  below ← taken files (stored_in shape) state
  rest ← taken files Integer below
  item ← array_popped shape rest
  Some item.1

abbrev pub is_array : VType → Bool
is_array Null = true
is_array (Object name) = begins_array name
is_array _ = false

abbrev pub length_taken : TypeState → Option TypeState
length_taken state = do
  array ← popped state
  if is_array array.0 then Some (pushed Integer array.1) else None

-- the descriptor of an array of numbers
abbrev pub array_name : Shape → Option (List ℕ)
array_name shape.Bool = Some (codes "[Z")
array_name shape.Byte = Some (codes "[B")
array_name shape.Char = Some (codes "[C")
array_name shape.Short = Some (codes "[S")
array_name shape.Int = Some (codes "[I")
array_name shape.Long = Some (codes "[J")
array_name _ = None

abbrev pub array_made : World → Shape → TypeState → Option TypeState
array_made files shape state = do
  name ← array_name shape
  transition files (Integer ∷ []) (Some (Object name)) state

-- the descriptor of an array of a class or of arrays
abbrev pub array_of : List ℕ → List ℕ
array_of name = if begins_array name then 91 ∷ name else 91 ∷ 76 ∷ name ++ 59 ∷ []

abbrev pub references_made : Environment → ℕ → TypeState → Option TypeState
references_made e index state = do
  name ← class_name e.class.pool index
  transition e.files (Integer ∷ []) (Some (Object (array_of name))) state
