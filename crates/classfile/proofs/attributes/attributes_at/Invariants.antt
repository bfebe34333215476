use Rattle.std.proofs.Common.{◌≡◌, ◌-◌}
use Rattle.classfile.specs.Scan.{repeat}
use Rattle.classfile.specs.Attributes.{attribute_at, attributes_at}
use Rattle.classfile.proofs.attributes.attributes_at.Given as goal

abbrev pub invariant-loop : goal.invariant-loop
invariant-loop l = repeat (l.count - l.counter) attribute_at l.scan ≡ attributes_at l.fn.start
