use Rattle.std.proofs.Common.{◌≡◌, ◌-◌}
use Rattle.classfile.specs.Scan.{repeat}
use Rattle.classfile.specs.Attributes.{field_attribute_at, field_attributes_at}
use Rattle.classfile.proofs.attributes.field_attributes_at.Given as goal

abbrev pub invariant-loop : goal.invariant-loop
invariant-loop l = repeat (l.count - l.counter) (field_attribute_at l.pool) (l.found, l.scan) ≡ field_attributes_at l.pool l.fn.start
