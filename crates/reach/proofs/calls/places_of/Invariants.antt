-- The places of the calls that were taken.
use Rattle.std.proofs.Common.{◌≡◌}
use Rattle.reach.specs.Calls.{places_of}
use Rattle.reach.proofs.calls.places_of.Given as goal

abbrev pub invariant-loop-call : goal.invariant-loop-call
invariant-loop-call l = l.places ≡ places_of l.yielded
