use Rattle.std.proofs.Common.{refl}
use Rattle.jworld.specs.Upwards.{upwards, chain}
use Rattle.jworld.specs.Ways.{leads}
use Rattle.jworld.specs.Above.{is_above}
use Rattle.jworld.specs.Subtype.{items_fit, is_subtype}
use Rattle.b_heap.specs.Types.{is_instance, may_hold}
use Rattle.b_heap.proofs.worked.objects_have_types.Goals as goal

pub returns-clause-types : goal.returns-clause-types
unfolding upwards chain leads is_above items_fit is_subtype is_instance may_hold
returns-clause-types c = (refl, refl, refl, refl, refl, refl)

pub returns-clause-arrays : goal.returns-clause-arrays
unfolding upwards chain leads is_above items_fit is_subtype is_instance may_hold
returns-clause-arrays c = (refl, refl, refl, refl, refl, refl)
