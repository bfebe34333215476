use Rattle.std.proofs.Common.{refl}
use Rattle.b_frame.specs.LocalStep.{local_step}
use Rattle.b_frame.proofs.worked.stack_forms.Goals as goal

pub returns-clause-pops : goal.returns-clause-pops
unfolding local_step
returns-clause-pops c = (refl, refl, refl, refl, refl)

pub returns-clause-singles : goal.returns-clause-singles
unfolding local_step
returns-clause-singles c = (refl, refl, refl, refl, refl, refl, refl, refl)

pub returns-clause-pairs : goal.returns-clause-pairs
unfolding local_step
returns-clause-pairs c = (refl, refl, refl, refl, refl, refl)

pub returns-clause-both : goal.returns-clause-both
unfolding local_step
returns-clause-both c = (refl, refl, refl, refl, refl)
