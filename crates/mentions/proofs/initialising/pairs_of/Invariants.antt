-- What is made, and what is left of the methods, the last first.
use Rattle.std.proofs.Common.{◌≡◌, ◌++◌, map, reverse}
use Rattle.mentions.specs.Initialisers.{in_domain}
use Rattle.mentions.proofs.initialising.pairs_of.Given as goal

abbrev pub invariant-loop-method : goal.invariant-loop-method
invariant-loop-method l = l.pairs ++ map (in_domain l.domain) (reverse l.method-iterator.iter.rest.now) ≡ map (in_domain l.domain) (reverse l.methods)
