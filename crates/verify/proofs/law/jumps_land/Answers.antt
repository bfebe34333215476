use Rattle.verify.proofs.WellTypedWalk.{land}
use Rattle.verify.proofs.law.jumps_land.Goals as goal

pub returns : goal.returns
returns c = land
