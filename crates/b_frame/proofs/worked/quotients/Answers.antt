use Rattle.std.proofs.Common.{refl}
use Rattle.b_frame.specs.LocalStep.{local_step}
use Rattle.b_frame.proofs.worked.quotients.Goals as goal

pub returns-clause-signs : goal.returns-clause-signs
unfolding local_step
returns-clause-signs c = (refl, refl, refl)

pub returns-clause-smallest : goal.returns-clause-smallest
unfolding local_step
returns-clause-smallest c = (refl, refl, refl, refl)

pub returns-clause-zero : goal.returns-clause-zero
unfolding local_step
returns-clause-zero c = (refl, refl)
