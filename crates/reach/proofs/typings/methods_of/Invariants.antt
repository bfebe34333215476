-- The methods of the pairs before the loop's place.
use Rattle.std.proofs.Common.{◌≡◌, [], map, take}
use Rattle.reaching.specs.Order.{add_all}
use Rattle.reach.specs.Typings.{in_any_domain}
use Rattle.reach.proofs.typings.methods_of.Given as goal

abbrev pub invariant-loop-n : goal.invariant-loop-n
invariant-loop-n l = l.methods ≡ add_all [] (map in_any_domain (take l.n l.pairs))
