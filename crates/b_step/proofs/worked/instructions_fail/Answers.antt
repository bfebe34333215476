use Rattle.std.proofs.Common.{refl}
use Rattle.jworld.specs.Upwards.{upwards, chain}
use Rattle.jworld.specs.Ways.{leads}
use Rattle.jworld.specs.Above.{is_above}
use Rattle.jworld.specs.Subtype.{items_fit, is_subtype}
use Rattle.b_heap.specs.Objects.{object_cost, array_cost, object_shapes}
use Rattle.b_heap.specs.Places.{place_of}
use Rattle.b_heap.specs.Heap.{allocated, field_value, with_field, length_of, item_value, with_item}
use Rattle.b_heap.specs.Types.{is_instance, may_hold}
use Rattle.b_step.specs.Execute.{quiet, execute}
use Rattle.b_step.proofs.worked.instructions_fail.Goals as goal

pub returns-clause-null : goal.returns-clause-null
unfolding upwards chain leads is_above items_fit is_subtype object_cost array_cost object_shapes place_of allocated field_value with_field length_of item_value with_item is_instance may_hold quiet execute
returns-clause-null c = (refl, refl, refl, refl, refl, refl, refl, refl)

pub returns-clause-bounds : goal.returns-clause-bounds
unfolding upwards chain leads is_above items_fit is_subtype object_cost array_cost object_shapes place_of allocated field_value with_field length_of item_value with_item is_instance may_hold quiet execute
returns-clause-bounds c = (refl, refl, refl, refl)

pub returns-clause-types : goal.returns-clause-types
unfolding upwards chain leads is_above items_fit is_subtype object_cost array_cost object_shapes place_of allocated field_value with_field length_of item_value with_item is_instance may_hold quiet execute
returns-clause-types c = (refl, refl, refl, refl, refl, refl)

pub returns-clause-room : goal.returns-clause-room
unfolding upwards chain leads is_above items_fit is_subtype object_cost array_cost object_shapes place_of allocated field_value with_field length_of item_value with_item is_instance may_hold quiet execute
returns-clause-room c = (refl, refl, refl)

pub returns-clause-interfaces : goal.returns-clause-interfaces
unfolding upwards chain leads is_above items_fit is_subtype object_cost array_cost object_shapes place_of allocated field_value with_field length_of item_value with_item is_instance may_hold quiet execute
returns-clause-interfaces c = (refl, refl)
