use Rattle.std.proofs.Common.{◌≡◌, ◌++◌, drop, map}
use Rattle.stackmap.specs.Start.{type_of}
use Rattle.stackmap.proofs.start.with_parameters.Given as goal

abbrev pub invariant-loop-parameter : goal.invariant-loop-parameter
invariant-loop-parameter l = l.locals ++ map type_of (drop l.parameter-index l.parameters) ≡ l.fn.before ++ map type_of l.parameters
