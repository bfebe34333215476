use Rattle.std.proofs.Common.{refl}
use Rattle.type_states.specs.Slots.{stored}
use Rattle.type_states.proofs.worked.halves_of_longs.Goals as goal

pub returns : goal.returns
unfolding stored
returns c = (refl, refl, refl, refl, refl)
