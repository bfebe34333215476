-- The methods before the loop's place have their numbers.
use Rattle.std.proofs.Common.{◌≡◌, take}
use Rattle.std.specs.Prelude.{position}
use Rattle.jworld.specs.declared.ids.MethodId.{MethodId}
use Rattle.mentions.specs.Bindings.{is_method}
use Rattle.b_machine.specs.Numbers.{number_in}
use Rattle.b_machine.proofs.numbers.Numbers.of.Given as goal

abbrev pub invariant-loop-n : goal.invariant-loop-n
invariant-loop-n l = (id : MethodId) → number_in id l.numbers ≡ position (λ method. is_method id method.id) (take l.n l.methods)
