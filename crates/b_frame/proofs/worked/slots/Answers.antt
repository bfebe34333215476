use Rattle.std.proofs.Common.{refl}
use Rattle.b_frame.specs.LocalStep.{local_step}
use Rattle.b_frame.proofs.worked.slots.Goals as goal

pub returns-clause-loaded : goal.returns-clause-loaded
unfolding local_step
returns-clause-loaded c = (refl, refl, refl, refl, refl, refl)

pub returns-clause-stored : goal.returns-clause-stored
unfolding local_step
returns-clause-stored c = (refl, refl, refl, refl)

pub returns-clause-arguments : goal.returns-clause-arguments
unfolding local_step
returns-clause-arguments c = (refl, refl, refl)
