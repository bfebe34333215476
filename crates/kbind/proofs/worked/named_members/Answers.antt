use Rattle.std.proofs.Common.{refl}
use Rattle.kbind.specs.Entries.{entry_named}
use Rattle.kbind.specs.Bound.{class_faults, method_faults, members}
use Rattle.kbind.proofs.worked.named_members.Goals as goal

pub returns-clause-named : goal.returns-clause-named
unfolding entry_named class_faults method_faults members
returns-clause-named c = refl

pub returns-clause-entries : goal.returns-clause-entries
unfolding entry_named class_faults method_faults members
returns-clause-entries c = (refl, refl, refl)
