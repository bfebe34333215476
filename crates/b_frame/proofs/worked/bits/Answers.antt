use Rattle.std.proofs.Common.{refl}
use Rattle.b_frame.specs.LocalStep.{local_step}
use Rattle.b_frame.proofs.worked.bits.Goals as goal

pub returns-clause-counts : goal.returns-clause-counts
unfolding local_step
returns-clause-counts c = (refl, refl, refl, refl, refl)

pub returns-clause-signs : goal.returns-clause-signs
unfolding local_step
returns-clause-signs c = (refl, refl, refl, refl)

pub returns-clause-narrowed : goal.returns-clause-narrowed
unfolding local_step
returns-clause-narrowed c = (refl, refl, refl, refl, refl, refl)

pub returns-clause-compared : goal.returns-clause-compared
unfolding local_step
returns-clause-compared c = (refl, refl, refl)

pub returns-clause-each : goal.returns-clause-each
unfolding local_step
returns-clause-each c = (refl, refl, refl, refl)
