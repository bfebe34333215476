use Rattle.std.proofs.Common.{refl}
use Rattle.kbind.specs.Entries.{entry_named}
use Rattle.kbind.specs.Bound.{class_faults, method_faults, members}
use Rattle.kbind.proofs.worked.objects_placed.Goals as goal

pub returns : goal.returns
unfolding entry_named class_faults method_faults members
returns c = (refl, refl)
