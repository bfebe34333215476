use Rattle.std.proofs.Common.{◌≡◌, take}
use Rattle.jworld.specs.Classes.{built_in}
use Rattle.jworld.proofs.names.Names.built_in.Given as goal

abbrev pub invariant-loop-name : goal.invariant-loop-name
invariant-loop-name l = l.names ≡ take l.name-index built_in
