use Rattle.std.proofs.Common.{length}
use Rattle.b_heap.proofs.subtypes.+items_fit.Given as goal

abbrev pub decreases-items_fit : goal.decreases-items_fit
decreases-items_fit l = length l.from.now
