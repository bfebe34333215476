use Rattle.std.proofs.Common.{◌≡◌, ◌+◌, ◌-◌, length}
use Rattle.stackmap.specs.declared.vtype.VType.{VType}
use Rattle.type_states.specs.Slots.{put}
use Rattle.type_states.proofs.slots.lengthened.Given as goal

abbrev pub invariant-loop-slots : goal.invariant-loop-slots
invariant-loop-slots l = (t : VType) → put l.slots l.at t ≡ put l.fn.slots l.at t

abbrev pub decreases-loop-slots : goal.decreases-loop-slots
decreases-loop-slots l = l.at + 1 - length l.slots
