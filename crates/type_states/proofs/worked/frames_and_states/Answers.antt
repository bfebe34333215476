use Rattle.std.proofs.Common.{refl}
use Rattle.type_states.proofs.worked.frames_and_states.Goals as goal

pub returns-clause-wide : goal.returns-clause-wide
returns-clause-wide c = (refl, refl, refl)

pub returns-clause-forgotten : goal.returns-clause-forgotten
returns-clause-forgotten c = (refl, refl, refl, refl, refl, refl, refl)
