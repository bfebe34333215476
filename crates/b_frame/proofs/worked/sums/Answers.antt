use Rattle.std.proofs.Common.{refl}
use Rattle.b_frame.specs.LocalStep.{local_step}
use Rattle.b_frame.proofs.worked.sums.Goals as goal

pub returns-clause-ints : goal.returns-clause-ints
unfolding local_step
returns-clause-ints c = (refl, refl, refl, refl)

pub returns-clause-longs : goal.returns-clause-longs
unfolding local_step
returns-clause-longs c = (refl, refl, refl, refl)

pub returns-clause-kinds : goal.returns-clause-kinds
unfolding local_step
returns-clause-kinds c = (refl, refl, refl, refl)
