-- What is taken, and what is left of the numbers.
use Rattle.std.proofs.Common.{◌≡◌, ◌++◌, map}
use Rattle.reach.proofs.starts.Starts.numbers.Given as goal

abbrev pub invariant-loop-number : goal.invariant-loop-number
invariant-loop-number l = l.numbers ++ l.number-iterator ≡ map (λ start. start.1) l.self
