use Rattle.std.proofs.Common.{refl}
use Rattle.jworld.specs.Ways.{leads}
use Rattle.jworld.specs.Above.{is_above}
use Rattle.jworld.specs.Faults.{world_fault}
use Rattle.jworld.proofs.worked.files_refused.Goals as goal

pub returns-clause-duplicates : goal.returns-clause-duplicates
unfolding world_fault is_above leads
returns-clause-duplicates c = (refl, refl, refl, refl)

pub returns-clause-supers : goal.returns-clause-supers
unfolding world_fault is_above leads
returns-clause-supers c = (refl, refl, refl, refl)

pub returns-clause-order : goal.returns-clause-order
unfolding world_fault is_above leads
returns-clause-order c = (refl, refl)

pub returns-clause-large : goal.returns-clause-large
returns-clause-large c = (refl, refl)
