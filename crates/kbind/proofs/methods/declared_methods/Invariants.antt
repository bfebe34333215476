use Rattle.std.proofs.Common.{◌≡◌, ◌+◌, ◌++◌, drop}
use Rattle.kbind.specs.Methods.{declared_from}
use Rattle.kbind.proofs.methods.declared_methods.Given as goal

abbrev pub invariant-loop-k : goal.invariant-loop-k
invariant-loop-k l = l.declared.items ++ declared_from (l.k + 4) (drop l.k l.files) ≡ declared_from 4 l.files
