-- The numbers of those before the loop's place.
use Rattle.std.proofs.Common.{◌≡◌, take}
use Rattle.reach.specs.Calls.{numbers_of}
use Rattle.reach.proofs.calls.numbers_of.Given as goal

abbrev pub invariant-loop-target : goal.invariant-loop-target
invariant-loop-target l = l.numbers ≡ numbers_of l.pairs (take l.target-index l.targets)
