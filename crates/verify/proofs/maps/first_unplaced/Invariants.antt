use Rattle.std.proofs.Common.{◌≡◌, drop}
use Rattle.verify.specs.Placing.{first_unplaced}
use Rattle.verify.proofs.maps.first_unplaced.Given as goal

abbrev pub invariant-loop-declared : goal.invariant-loop-declared
invariant-loop-declared l = first_unplaced l.starts l.least (drop l.declared-index l.maps) ≡ first_unplaced l.starts 0 l.maps
