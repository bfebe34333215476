-- The entries of the tasks before the loop's place.
use Rattle.std.proofs.Common.{◌≡◌, take}
use Rattle.reach.specs.Pairs.{entries_of}
use Rattle.reach.proofs.entries.entries_of.Given as goal

abbrev pub invariant-loop-n : goal.invariant-loop-n
invariant-loop-n l = l.pairs ≡ entries_of (take l.n l.tasks) (take l.n l.entries)
