use Rattle.std.proofs.Common.{◌≡◌, map, take}
use Rattle.run_names.specs.Methods.{method_name}
use Rattle.run_names.proofs.methods.method_names.Given as goal

abbrev pub invariant-loop-method : goal.invariant-loop-method
invariant-loop-method l = l.names ≡ map (method_name l.world) (take l.method-index l.methods)
