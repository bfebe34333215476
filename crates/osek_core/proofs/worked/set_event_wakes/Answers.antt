use Rattle.std.proofs.Common.{refl}
use Rattle.std.specs.Fmt.{digits}
use Rattle.osek_core.proofs.worked.set_event_wakes.Goals as goal

pub returns : goal.returns
unfolding digits
returns c = refl
