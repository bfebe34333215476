use Rattle.std.proofs.Common.{refl}
use Rattle.jworld.specs.Upwards.{upwards, chain}
use Rattle.b_heap.specs.Objects.{object_shapes}
use Rattle.b_heap.specs.Places.{place_of}
use Rattle.b_heap.specs.Statics.{first_statics, static_value}
use Rattle.b_heap.proofs.worked.fields_stand.Goals as goal

pub returns-clause-places : goal.returns-clause-places
unfolding upwards chain object_shapes place_of first_statics static_value
returns-clause-places c = (refl, refl, refl, refl, refl)

pub returns-clause-constants : goal.returns-clause-constants
unfolding upwards chain object_shapes place_of first_statics static_value
returns-clause-constants c = (refl, refl, refl)
