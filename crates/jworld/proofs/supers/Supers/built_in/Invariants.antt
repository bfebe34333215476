use Rattle.std.proofs.Common.{◌≡◌, take}
use Rattle.jworld.specs.Held.{built_in_supers}
use Rattle.jworld.proofs.supers.Supers.built_in.Given as goal

abbrev pub invariant-loop-above : goal.invariant-loop-above
invariant-loop-above l = l.supers ≡ take l.above-index built_in_supers
