use Rattle.std.proofs.Common.{◌≡◌, drop}
use Rattle.type_states.specs.Assignable.{are_operands_assignable}
use Rattle.type_states.proofs.states.are_types_assignable.Given as goal

abbrev pub invariant-loop-at : goal.invariant-loop-at
invariant-loop-at l = are_operands_assignable l.world (drop l.at l.from) (drop l.at l.to) ≡ are_operands_assignable l.world l.from l.to
