use Rattle.std.proofs.Common.{refl}
use Rattle.b_step.specs.Execute.{execute}
use Rattle.b_step.proofs.worked.services_take_numbers.Goals as goal

pub returns-clause-alarms : goal.returns-clause-alarms
unfolding execute
returns-clause-alarms c = (refl, refl)

pub returns-clause-others : goal.returns-clause-others
unfolding execute
returns-clause-others c = (refl, refl)
