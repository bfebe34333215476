use Rattle.std.proofs.Common.{drop}
use Rattle.jworld.specs.Keyed.{AreFirst}
use Rattle.jworld.specs.Found.{is_method_named}
use Rattle.jworld.proofs.found.first_methods.Given as goal

abbrev pub invariant-loop-place : goal.invariant-loop-place
invariant-loop-place l = AreFirst (is_method_named l.which) l.places l.place (drop l.place l.methods)
