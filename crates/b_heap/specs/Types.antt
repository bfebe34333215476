-- The types of objects at run time (JVMS SE 8, 6.5 checkcast, instanceof and aastore). A reference type is the name of a class or
-- an interface, or the descriptor of an array.
use Rattle.std.specs.Prelude.{ℕ, Bool, true, false, List, [], ◌∷◌, ◌++◌, Option, Some, None, slice_get, slice_index_or}
use Rattle.jnames.specs.Bytes.{◌>>=◌}
use Rattle.jnames.specs.declared.shape.Shape.{Shape}
use Rattle.jnames.specs.declared.shape.Shape.TheVariants as shape
use Rattle.jworld.specs.Classes.{World, names}
use Rattle.jworld.specs.Subtype.{is_subtype}
use Rattle.values.specs.declared.value.Value.{Value}
use Rattle.values.specs.declared.value.Value.TheVariants as value
use Rattle.b_heap.specs.declared.kind.Kind.{Kind}
use Rattle.b_heap.specs.declared.kind.Kind.TheVariants as kind
use Rattle.b_heap.specs.Heap.{HeapInfo}

-- the descriptor of a type (4.3.2)
abbrev pub descriptor_by : Shape → List ℕ → List ℕ
descriptor_by shape.Byte name = 66 ∷ []
descriptor_by shape.Char name = 67 ∷ []
descriptor_by shape.Double name = 68 ∷ []
descriptor_by shape.Float name = 70 ∷ []
descriptor_by shape.Int name = 73 ∷ []
descriptor_by shape.Long name = 74 ∷ []
descriptor_by shape.Short name = 83 ∷ []
descriptor_by shape.Bool name = 90 ∷ []
descriptor_by shape.Class name = 76 ∷ (name ++ 59 ∷ [])
descriptor_by shape.Array name = name

-- the type of an object: an instance is of its class, and an array's descriptor begins with [
abbrev pub type_of : World → Kind → List ℕ
type_of files (kind.Instance class) = slice_index_or (names files) class.n []
type_of files (kind.Array element) = 91 ∷ descriptor_by element.shape element.name

abbrev pub is_of : World → Kind → List ℕ → Bool
is_of files kind target = is_subtype files (type_of files kind) target

-- whether an object is of a type; where there is no object it is of none
abbrev pub is_there : World → Option Kind → List ℕ → Bool
is_there files None target = false
is_there files (Some kind) target = is_of files kind target

abbrev pub kind_at : HeapInfo → ℕ → Option Kind
kind_at heap at = do
  object ← slice_get heap.objects at
  Some object.kind

unfoldable pub is_instance : World → HeapInfo → ℕ → List ℕ → Bool
is_instance files heap at target = is_there files (kind_at heap at) target

-- the type of an array's items, where they are references
abbrev pub reference_by : Shape → List ℕ → Option (List ℕ)
reference_by shape.Class name = Some name
reference_by shape.Array name = Some name
reference_by _ name = None

abbrev pub item_type : Kind → Option (List ℕ)
item_type (kind.Array element) = reference_by element.shape element.name
item_type (kind.Instance class) = None

abbrev pub item_type_at : HeapInfo → ℕ → Option (List ℕ)
item_type_at heap at = do
  kind ← kind_at heap at
  item_type kind

abbrev pub holds : World → HeapInfo → Option (List ℕ) → ℕ → Bool
holds files heap None at = false
holds files heap (Some type) at = is_instance files heap at type

-- whether an array of references may hold a value: null always, and an object that is of the type of its items
unfoldable pub may_hold : World → HeapInfo → ℕ → Value → Bool
may_hold files heap array value.Null = true
may_hold files heap array (value.Object at) = holds files heap (item_type_at heap array) at
may_hold files heap array _ = false
