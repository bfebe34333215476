use Rattle.std.proofs.Common.{◌≡◌, drop}
use Rattle.type_states.specs.Assignable.{are_slots_assignable}
use Rattle.type_states.proofs.states.are_slots_assignable.Given as goal

abbrev pub invariant-loop-at : goal.invariant-loop-at
invariant-loop-at l = are_slots_assignable l.world (drop l.at l.from) (drop l.at l.to) ≡ are_slots_assignable l.world l.from l.to
