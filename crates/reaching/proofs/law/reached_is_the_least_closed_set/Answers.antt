use Rattle.reaching.proofs.Closing.{least_closed}
use Rattle.reaching.proofs.law.reached_is_the_least_closed_set.Goals as goal

pub returns : goal.returns
returns c = least_closed
