use Rattle.std.proofs.Common.{◌≡◌, ◌-◌}
use Rattle.classfile.specs.Scan.{repeat}
use Rattle.classfile.specs.Members.{method_attribute_at, all_method_attributes_at}
use Rattle.classfile.proofs.members.all_method_attributes_at.Given as goal

abbrev pub invariant-loop : goal.invariant-loop
invariant-loop l = repeat (l.count - l.counter) (method_attribute_at l.pool l.at l.bare) (l.found, l.scan) ≡ all_method_attributes_at l.pool l.at l.bare l.fn.start
