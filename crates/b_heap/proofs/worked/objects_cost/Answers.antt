use Rattle.std.proofs.Common.{refl}
use Rattle.jworld.specs.Upwards.{upwards, chain}
use Rattle.b_heap.specs.Objects.{object_shapes, object_cost, array_cost}
use Rattle.b_heap.specs.Heap.{allocated}
use Rattle.b_heap.proofs.worked.objects_cost.Goals as goal

pub returns-clause-levels : goal.returns-clause-levels
unfolding upwards chain object_shapes object_cost array_cost allocated
returns-clause-levels c = (refl, refl, refl)

pub returns-clause-arrays : goal.returns-clause-arrays
unfolding upwards chain object_shapes object_cost array_cost allocated
returns-clause-arrays c = (refl, refl, refl, refl)

pub returns-clause-room : goal.returns-clause-room
unfolding upwards chain object_shapes object_cost array_cost allocated
returns-clause-room c = (refl, refl)
