-- The methods behind those that are left have their code.
use Rattle.std.proofs.Common.{◌≡◌, ◌++◌, map, reverse, length}
use Rattle.std.specs.Prelude.{All}
use Rattle.actions.specs.Known.{counts_of, IsKnown}
use Rattle.method_code.specs.Method.{method_of}
use Rattle.run_input.proofs.methods.backwards.Given as goal

abbrev pub invariant-loop-one : goal.invariant-loop-one
invariant-loop-one l = record {
  code : l.methods.items ++ reverse (map (method_of l.s) l.typed) ≡ reverse (map (method_of l.s) l.fn.typed);
  known : All (λ method. All (IsKnown (counts_of l.s.bound.config)) method.actions) l.methods.items;
}

abbrev pub decreases-loop-one : goal.decreases-loop-one
decreases-loop-one l = length l.typed
