use Rattle.std.proofs.Common.{◌≡◌, ◌++◌, drop}
use Rattle.type_states.specs.TypeStates.{slots_of}
use Rattle.type_states.proofs.frame.slots_of.Given as goal

abbrev pub invariant-loop-held : goal.invariant-loop-held
invariant-loop-held l = l.slots ++ slots_of (drop l.held-index l.locals) ≡ slots_of l.locals
