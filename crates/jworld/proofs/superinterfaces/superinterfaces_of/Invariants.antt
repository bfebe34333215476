use Rattle.std.proofs.Common.{◌≡◌, ◌-◌, ◌++◌, filter}
use Rattle.std.specs.List.{range_with_len}
use Rattle.jworld.specs.Superinterfaces.{is_superinterface, superinterfaces}
use Rattle.jworld.proofs.superinterfaces.superinterfaces_of.Given as goal

abbrev pub invariant-loop-n : goal.invariant-loop-n
invariant-loop-n l = l.found ++ filter (is_superinterface l.classes l.class.n) (range_with_len l.n (l.n-end - l.n)) ≡ superinterfaces l.classes l.class.n
