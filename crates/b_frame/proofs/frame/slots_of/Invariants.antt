use Rattle.std.proofs.Common.{◌≡◌, ◌++◌, drop}
use Rattle.b_frame.specs.Frames.{slots_of}
use Rattle.b_frame.proofs.frame.slots_of.Given as goal

abbrev pub invariant-loop-value : goal.invariant-loop-value
invariant-loop-value l = l.slots.items ++ slots_of (drop l.value-index l.arguments) ≡ slots_of l.arguments
