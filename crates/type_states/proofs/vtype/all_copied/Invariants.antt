use Rattle.std.proofs.Common.{◌≡◌, ◌++◌, drop}
use Rattle.type_states.proofs.vtype.all_copied.Given as goal

abbrev pub invariant-loop-one : goal.invariant-loop-one
invariant-loop-one l = l.made ++ drop l.one-index l.given ≡ l.given
