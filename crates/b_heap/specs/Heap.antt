-- A domain's heap: its objects one after the other, and how many bytes are left. Nothing is ever taken back.
use Rattle.std.specs.Prelude.{◌≡◌, ℕ, ◌-◌, nat_le, nat_lt, List, ◌++◌, ◌∷◌, [], map, length, replicate, slice_get, slice_set, Option, Some, None, Result, Ok, Err, if◌then◌else◌}
use Rattle.jnames.specs.Bytes.{◌>>=◌}
use Rattle.jnames.specs.declared.param.Param.{Param}
use Rattle.jnames.specs.declared.shape.Shape.{Shape}
use Rattle.jworld.specs.declared.ids.FieldId.{FieldId}
use Rattle.jworld.specs.Classes.{World}
use Rattle.values.specs.declared.value.Value.{Value}
use Rattle.values.specs.Values.{zero_of, kept_as}
use Rattle.b_heap.specs.declared.kind.Kind.{Kind}
use Rattle.b_heap.specs.declared.kind.Kind.TheVariants as kind
use Rattle.b_heap.specs.declared.fault.HeapFail.{HeapFail}
use Rattle.b_heap.specs.declared.fault.HeapFail.TheVariants as fail
use Rattle.b_heap.specs.declared.places.Place.{Place}
use Rattle.b_heap.specs.Objects.{object_shapes}
use Rattle.b_heap.specs.Places.{place_of}

-- an instance of a class has the values of its fields, in their order; an array has those of its items
pub record ObjectInfo : Type 0 where
  pub kind : Kind
  pub values : List Value

pub record HeapInfo : Type 0 where
  pub left : ℕ
  pub objects : List ObjectInfo

-- ---- new objects

-- the fields of a new object, and the items of a new array, are zero (JVMS SE 8, 6.5 new, newarray and anewarray)
abbrev pub instance_of : World → ℕ → ObjectInfo
instance_of files class = record { kind = kind.Instance (record { n = class }); values = map zero_of (object_shapes files class) }

abbrev pub array_of : Param → ℕ → ObjectInfo
array_of element length = record { kind = kind.Array element; values = replicate length (zero_of element.shape) }

-- where the cost is at most what is left, the object stands behind the others; its reference is its place
unfoldable pub allocated : HeapInfo → ℕ → ObjectInfo → Option (ℕ × HeapInfo)
allocated heap cost object =
    if nat_le cost heap.left then Some (length heap.objects, record { left = heap.left - cost; objects = heap.objects ++ object ∷ [] }) else None

-- what an allocation answers and leaves: HeapFull exactly where there is no room, and then all is as it was, as without memory
abbrev pub Allocates : Option (ℕ × HeapInfo) → HeapInfo → HeapInfo → Result ℕ HeapFail → Type 0
Allocates defined old new (Ok place) = defined ≡ Some (place, new)
Allocates defined old new (Err fail.HeapFull) = (defined ≡ None) × (new ≡ old)
Allocates defined old new (Err fail.NoMemory) = new ≡ old

-- ---- fields of instances

-- instances are no arrays
abbrev pub instance_by : Kind → ObjectInfo → Option ObjectInfo
instance_by (kind.Instance class) object = Some object
instance_by (kind.Array element) object = None

abbrev pub instance_at : HeapInfo → ℕ → Option ObjectInfo
instance_at heap at = do
  object ← slice_get heap.objects at
  instance_by object.kind object

abbrev pub instance_place : World → FieldId → Option Place
instance_place files field = do
  place ← place_of files field
  if place.is_static then None else Some place

-- the value of a field of an object (6.5 getfield)
unfoldable pub field_value : World → HeapInfo → ℕ → FieldId → Option Value
field_value files heap at field = do
  object ← instance_at heap at
  place ← instance_place files field
  slice_get object.values place.at

-- an object with another value at a place, if it has the place
abbrev pub with_value : ObjectInfo → ℕ → Value → Option ObjectInfo
with_value object place value = if nat_lt place (length object.values) then Some (record { kind = object.kind; values = slice_set object.values place value }) else None

-- a heap with another value at a place of an object, if there are the object and the place
abbrev pub with_put : HeapInfo → ℕ → ℕ → Value → Option HeapInfo
with_put heap at place value = do
  object ← slice_get heap.objects at
  changed ← with_value object place value
  Some (record { left = heap.left; objects = slice_set heap.objects at changed })

unfoldable pub with_field : World → HeapInfo → ℕ → FieldId → Value → Option HeapInfo
with_field files heap at field value = do
  object ← instance_at heap at
  place ← instance_place files field
  with_put heap at place.at (kept_as place.shape value)

-- ---- items of arrays

abbrev pub item_shape : Kind → Option Shape
item_shape (kind.Array element) = Some element.shape
item_shape (kind.Instance class) = None

-- an array and the shape of its items
abbrev pub array_at : HeapInfo → ℕ → Option (ObjectInfo × Shape)
array_at heap at = do
  object ← slice_get heap.objects at
  shape ← item_shape object.kind
  Some (object, shape)

-- the length of an array (6.5 arraylength)
unfoldable pub length_of : HeapInfo → ℕ → Option ℕ
length_of heap at = do
  array ← array_at heap at
  Some (length array.0.values)

-- an item (6.5 iaload and the other array loads)
unfoldable pub item_value : HeapInfo → ℕ → ℕ → Option Value
item_value heap at index = do
  array ← array_at heap at
  slice_get array.0.values index

unfoldable pub with_item : HeapInfo → ℕ → ℕ → Value → Option HeapInfo
with_item heap at index value = do
  array ← array_at heap at
  with_put heap at index (kept_as array.1 value)
