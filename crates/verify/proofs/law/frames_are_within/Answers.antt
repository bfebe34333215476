use Rattle.verify.proofs.WellTypedWalk.{bounded}
use Rattle.verify.proofs.law.frames_are_within.Goals as goal

pub returns : goal.returns
returns c = bounded
