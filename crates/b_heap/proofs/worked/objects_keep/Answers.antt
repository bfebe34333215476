use Rattle.std.proofs.Common.{refl}
use Rattle.jworld.specs.Upwards.{upwards, chain}
use Rattle.b_heap.specs.Objects.{object_shapes}
use Rattle.b_heap.specs.Places.{place_of}
use Rattle.b_heap.specs.Heap.{field_value, with_field, length_of, item_value, with_item}
use Rattle.b_heap.proofs.worked.objects_keep.Goals as goal

pub returns-clause-fields : goal.returns-clause-fields
unfolding upwards chain object_shapes place_of field_value with_field length_of item_value with_item
returns-clause-fields c = (refl, refl, refl, refl)

pub returns-clause-items : goal.returns-clause-items
unfolding upwards chain object_shapes place_of field_value with_field length_of item_value with_item
returns-clause-items c = (refl, refl, refl, refl, refl)
