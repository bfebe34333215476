use Rattle.std.proofs.Common.{refl}
use Rattle.b_frame.specs.LocalStep.{local_step}
use Rattle.b_frame.proofs.worked.branches.Goals as goal

pub returns-clause-ints : goal.returns-clause-ints
unfolding local_step
returns-clause-ints c = (refl, refl, refl, refl, refl, refl, refl, refl, refl, refl)

pub returns-clause-references : goal.returns-clause-references
unfolding local_step
returns-clause-references c = (refl, refl, refl, refl, refl, refl, refl, refl, refl)

pub returns-clause-keys : goal.returns-clause-keys
unfolding local_step
returns-clause-keys c = (refl, refl, refl, refl)
