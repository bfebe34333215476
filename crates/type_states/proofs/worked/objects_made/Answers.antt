use Rattle.std.proofs.Common.{refl}
use Rattle.type_states.proofs.worked.objects_made.Goals as goal

pub returns : goal.returns
returns c = (refl, refl)
