use Rattle.std.proofs.Common.{◌≡◌, ◌-◌}
use Rattle.classfile.specs.Scan.{repeat, collect}
use Rattle.classfile.specs.Reading.{interface_at, interfaces_at}
use Rattle.classfile.proofs.reading.interfaces_at.Given as goal

abbrev pub invariant-loop : goal.invariant-loop
invariant-loop l = repeat (l.count - l.counter) (collect (interface_at l.pool)) (l.names, l.scan) ≡ interfaces_at l.pool l.fn.start
