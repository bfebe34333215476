use Rattle.std.proofs.Common.{◌≡◌, ◌++◌, take, filter_map}
use Rattle.jworld.specs.Classes.{class_named}
use Rattle.jworld.proofs.above.push_interfaces.Given as goal

abbrev pub invariant-loop-name : goal.invariant-loop-name
invariant-loop-name l = l.found ≡ l.initial.found ++ filter_map (λ name. class_named l.classes name.now) (take l.name-index l.name-items)
