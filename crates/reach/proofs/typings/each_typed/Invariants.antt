-- Those of the methods before the loop's place that are well typed.
use Rattle.std.proofs.Common.{◌≡◌, filter_map, take}
use Rattle.std.specs.Result.{result_ok}
use Rattle.method_typing.specs.Method.{method_typed}
use Rattle.reach.proofs.typings.each_typed.Given as goal

abbrev pub invariant-loop-n : goal.invariant-loop-n
invariant-loop-n l = l.typed ≡ filter_map (λ pair. result_ok (method_typed l.world pair.method)) (take l.n l.methods)
