use Rattle.std.proofs.Common.{◌≡◌, ◌++◌, drop, false}
use Rattle.type_states.specs.TypeStates.{entries_of}
use Rattle.type_states.proofs.frame.entries_of.Given as goal

abbrev pub invariant-loop-held : goal.invariant-loop-held
invariant-loop-held l = l.entries ++ entries_of l.is_second (drop l.held-index l.slots) ≡ entries_of false l.slots
