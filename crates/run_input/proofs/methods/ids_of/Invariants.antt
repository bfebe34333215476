-- Those of the methods before the loop's place.
use Rattle.std.proofs.Common.{◌≡◌, map, take}
use Rattle.run_input.proofs.methods.ids_of.Given as goal

abbrev pub invariant-loop-one : goal.invariant-loop-one
invariant-loop-one l = l.ids.items ≡ map (λ one. one.method) (take l.one-index l.typed)
