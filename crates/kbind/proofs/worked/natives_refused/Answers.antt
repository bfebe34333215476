use Rattle.std.proofs.Common.{refl}
use Rattle.kbind.specs.Entries.{entry_named}
use Rattle.kbind.specs.Bound.{class_faults, method_faults, members}
use Rattle.kbind.proofs.worked.natives_refused.Goals as goal

pub returns-clause-natives : goal.returns-clause-natives
unfolding entry_named class_faults method_faults members
returns-clause-natives c = (refl, refl, refl)

pub returns-clause-first : goal.returns-clause-first
unfolding entry_named class_faults method_faults members
returns-clause-first c = refl
