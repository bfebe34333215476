use Rattle.std.proofs.Common.{length}
use Rattle.type_states.proofs.assignable.+items_fit.Given as goal

abbrev pub decreases-items_fit : goal.decreases-items_fit
decreases-items_fit l = length l.from.now
