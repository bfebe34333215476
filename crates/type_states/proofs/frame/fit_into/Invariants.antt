use Rattle.std.proofs.Common.{◌≡◌, ◌+◌, ◌≤◌, drop}
use Rattle.type_states.specs.TypeStates.{places}
use Rattle.type_states.proofs.frame.fit_into.Given as goal

abbrev pub invariant-loop-held : goal.invariant-loop-held
invariant-loop-held l = record {
  within : l.taken ≤ l.room;
  so_far : l.taken + places (drop l.held-index l.operands) ≡ places l.operands;
}
