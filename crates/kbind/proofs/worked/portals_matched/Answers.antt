use Rattle.std.proofs.Common.{refl}
use Rattle.jnames.specs.Descriptors.{parameters_at, signature_of}
use Rattle.kbind.specs.Entries.{entry_named}
use Rattle.kbind.specs.Bound.{class_faults, method_faults, members}
use Rattle.kbind.proofs.worked.portals_matched.Goals as goal

pub returns : goal.returns
unfolding parameters_at signature_of entry_named class_faults method_faults members
returns c = (refl, refl)
