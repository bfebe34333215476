-- Which type may stand where another is wanted (JVMS SE 8, 4.10.1.2 and 4.10.1.4).
use Rattle.std.specs.Prelude.{ℕ, Bool, true, false, List, [], ◌∷◌, Option, Some, None, bytes_eq, codes, ◌==◌, ◌&&◌, ◌||◌, if◌then◌else◌}
use Rattle.stackmap.specs.declared.vtype.VType.{VType}
use Rattle.stackmap.specs.declared.vtype.VType.TheVariants.{Top, Integer, Float, Double, Long, Null, UninitThis, Object, Uninit}
use Rattle.jworld.specs.Classes.{World, class_named, is_interface}
use Rattle.jworld.specs.Upwards.{is_subclass}
use Rattle.jworld.specs.Subtype.{Rule, is_reference, reference_in, class_fits, fits, is_object}
use Rattle.type_states.specs.declared.state.TypeState.{TypeState}

abbrev pub is_interface_there : World → Option ℕ → Bool
is_interface_there files None = false
is_interface_there files (Some class) = is_interface files class

abbrev pub is_subclass_there : World → Option ℕ → Option ℕ → Bool
is_subclass_there files (Some class) (Some of) = is_subclass files class of
is_subclass_there files _ _ = false

-- whether a name counts as Object: its own, and that of each interface of the world
abbrev pub is_as_object : World → List ℕ → Bool
is_as_object files name = is_object name || is_interface_there files (class_named files name)

-- a class is itself, Object, and what its superclasses are; one that isn't in the world has Object alone above it. An array is an
-- Object and of the two interfaces that arrays implement.
unfoldable pub typing : World → Rule
typing files = record {
  class = λ from to. bytes_eq from to || is_as_object files to || is_subclass_there files (class_named files from) (class_named files to);
  array = λ to. is_as_object files to || bytes_eq to (codes "java/lang/Cloneable") || bytes_eq to (codes "java/io/Serializable");
}

-- the descriptor of an array's items, behind the [
abbrev pub items_in : List ℕ → Option (List ℕ)
items_in [] = None
items_in (c ∷ items) = if c == 91 then Some items else None

-- items that are no arrays: objects, whose descriptor begins with L, or of a primitive type
abbrev pub plain_items_fit : Rule → List ℕ → List ℕ → Bool
plain_items_fit rule [] to = false
plain_items_fit rule (c ∷ rest) to = if c == 76 then is_reference to && class_fits rule (reference_in (c ∷ rest)) (reference_in to) else bytes_eq (c ∷ rest) to

-- whether an operand of a type may stand where another is wanted
abbrev pub is_assignable : World → VType → VType → Bool
is_assignable files Top Top = true
is_assignable files Integer Integer = true
is_assignable files Float Float = true
is_assignable files Double Double = true
is_assignable files Long Long = true
is_assignable files Null Null = true
is_assignable files Null (Object to) = true
is_assignable files UninitThis UninitThis = true
is_assignable files (Object from) (Object to) = fits (typing files) from to
is_assignable files (Uninit from) (Uninit to) = from == to
is_assignable files _ _ = false

-- whether what a slot holds may stand where another type is wanted: everything is of Top
abbrev pub is_slot_assignable : World → VType → VType → Bool
is_slot_assignable files from Top = true
is_slot_assignable files from to = is_assignable files from to

-- slot by slot; a slot behind the last is Top
abbrev pub are_slots_assignable : World → List VType → List VType → Bool
are_slots_assignable files from [] = true
are_slots_assignable files [] (t ∷ to) = is_slot_assignable files Top t && are_slots_assignable files [] to
are_slots_assignable files (f ∷ from) (t ∷ to) = is_slot_assignable files f t && are_slots_assignable files from to

-- one by one; the stacks are of one depth
abbrev pub are_operands_assignable : World → List VType → List VType → Bool
are_operands_assignable files [] [] = true
are_operands_assignable files (f ∷ from) (t ∷ to) = is_assignable files f t && are_operands_assignable files from to
are_operands_assignable files _ _ = false

unfoldable pub is_state_assignable : World → TypeState → TypeState → Bool
is_state_assignable files from to = are_slots_assignable files from.slots to.slots && are_operands_assignable files from.operands to.operands
