use Rattle.std.proofs.Common.{◌≡◌, drop}
use Rattle.kbind.specs.Bound.{earliest}
use Rattle.kbind.proofs.binding.earliest.Given as goal

abbrev pub invariant-loop-n : goal.invariant-loop-n
invariant-loop-n l = l.first ≡ earliest (drop l.n l.faults)
