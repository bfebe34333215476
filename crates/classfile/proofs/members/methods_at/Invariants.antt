use Rattle.std.proofs.Common.{◌≡◌, ◌-◌}
use Rattle.classfile.specs.Scan.{repeat, collect}
use Rattle.classfile.specs.Members.{method_at, methods_at}
use Rattle.classfile.proofs.members.methods_at.Given as goal

abbrev pub invariant-loop : goal.invariant-loop
invariant-loop l = repeat (l.count - l.counter) (collect (method_at l.pool)) (l.methods.items, l.scan) ≡ methods_at l.pool l.fn.start
