use Rattle.replay.proofs.Runs.{nobody_acts}
use Rattle.replay.proofs.law.nobody_acts_again.Goals as goal

pub returns : goal.returns
returns c = nobody_acts
