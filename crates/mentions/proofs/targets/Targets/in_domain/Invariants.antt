-- What is made, and what is left of the methods.
use Rattle.std.proofs.Common.{◌≡◌, ◌++◌, map}
use Rattle.mentions.specs.Initialisers.{in_domain}
use Rattle.mentions.proofs.targets.Targets.in_domain.Given as goal

abbrev pub invariant-loop-method : goal.invariant-loop-method
invariant-loop-method l = l.pairs ++ map (in_domain l.domain) l.method-iterator ≡ map (λ e. in_domain l.domain e.1) l.self
