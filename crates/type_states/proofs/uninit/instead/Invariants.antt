use Rattle.std.proofs.Common.{◌≡◌, ◌++◌, drop}
use Rattle.type_states.specs.Uninit.{instead}
use Rattle.type_states.proofs.uninit.instead.Given as goal

abbrev pub invariant-loop-one : goal.invariant-loop-one
invariant-loop-one l = l.made ++ instead l.old l.new (drop l.one-index l.types) ≡ instead l.old l.new l.types
