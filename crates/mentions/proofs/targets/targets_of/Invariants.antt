-- What is left of the classes gathers what all of them do.
use Rattle.std.proofs.Common.{◌≡◌, ◌-◌, []}
use Rattle.std.specs.List.{range_with_len}
use Rattle.mentions.specs.Targets.{gathered, targets_of}
use Rattle.mentions.proofs.targets.targets_of.Given as goal

abbrev pub invariant-loop-n : goal.invariant-loop-n
invariant-loop-n l = gathered l.world l.key l.called.n l.targets (range_with_len l.n (l.n-end - l.n)) ≡ targets_of l.world l.key l.called.n
