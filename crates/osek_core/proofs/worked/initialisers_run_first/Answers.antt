use Rattle.std.proofs.Common.{refl}
use Rattle.std.specs.Fmt.{digits}
use Rattle.osek_core.proofs.worked.initialisers_run_first.Goals as goal

pub returns : goal.returns
unfolding digits
returns c = refl
