-- The targets of the calls before the loop's place.
use Rattle.std.proofs.Common.{◌≡◌, take}
use Rattle.std.specs.List.{flat_map}
use Rattle.reach.proofs.calls.targets_in.Given as goal

abbrev pub invariant-loop-call : goal.invariant-loop-call
invariant-loop-call l = l.targets ≡ flat_map (λ call. call.place.targets) (take l.call-index l.calls)
