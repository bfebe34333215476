-- Worked examples of fields and items.
use Rattle.std.specs.Prelude.{◌≡◌, [], ◌∷◌, Some, None, pos, negsuc}
use Rattle.jnames.specs.declared.shape.Shape.TheVariants as shape
use Rattle.jworld.specs.Members.{field_id}
use Rattle.values.specs.declared.value.Value.TheVariants as value
use Rattle.b_heap.specs.declared.kind.Kind.TheVariants as kind
use Rattle.b_heap.specs.Heap.{HeapInfo, instance_of, array_of, field_value, with_field, length_of, item_value, with_item}
use Rattle.b_heap.specs.Worked.Files.{files}

-- a new Q and an array of two chars
abbrev pub heap : HeapInfo
heap = record { left = 0; objects = instance_of files 4 ∷ array_of (record { shape = shape.Char; name = [] }) 2 ∷ [] }

abbrev pub FieldsKeepTheirBits : Type 0
FieldsKeepTheirBits =
    (field_value files heap 0 (field_id 4 0) ≡ Some (value.Long (pos 0)))
    × (with_field files heap 0 (field_id 4 2) (value.Int (negsuc 0))
    ≡ Some
    (record {
      left = 0;
      objects =
          record { kind = kind.Instance (record { n = 4 }); values = value.Int (pos 0) ∷ value.Int (pos 0) ∷ value.Long (pos 0) ∷ value.Int (pos 65535) ∷ [] }
          ∷ array_of (record { shape = shape.Char; name = [] }) 2 ∷ [];
    }))
    × (with_field files heap 1 (field_id 4 2) (value.Int (pos 1)) ≡ None) × (field_value files heap 0 (field_id 4 1) ≡ None)

abbrev pub ItemsKeepTheirBits : Type 0
ItemsKeepTheirBits =
    (length_of heap 1 ≡ Some 2) × (length_of heap 0 ≡ None) × (item_value heap 1 1 ≡ Some (value.Int (pos 0))) × (item_value heap 1 2 ≡ None)
    × (with_item heap 1 1 (value.Int (pos 65537))
    ≡ Some
    (record {
      left = 0;
      objects =
          instance_of files 4 ∷ record { kind = kind.Array (record { shape = shape.Char; name = [] }); values = value.Int (pos 0) ∷ value.Int (pos 1) ∷ [] } ∷ [];
    }))
