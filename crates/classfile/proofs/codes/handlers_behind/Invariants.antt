use Rattle.std.proofs.Common.{◌≡◌, ◌-◌}
use Rattle.classfile.specs.Scan.{repeat}
use Rattle.classfile.specs.Codes.{handler_at}
use Rattle.classfile.proofs.codes.handlers_behind.Given as goal

abbrev pub invariant-loop : goal.invariant-loop
invariant-loop l = repeat (l.count - l.counter) handler_at l.scan ≡ repeat l.count handler_at l.fn.start
