use Rattle.std.proofs.Common.{◌≡◌, ◌-◌}
use Rattle.classfile.specs.Scan.{repeat}
use Rattle.classfile.specs.Codes.{code_attribute_at, code_attributes_at}
use Rattle.classfile.proofs.codes.code_attributes_at.Given as goal

abbrev pub invariant-loop : goal.invariant-loop
invariant-loop l = repeat (l.count - l.counter) (code_attribute_at l.pool) (l.found, l.scan) ≡ code_attributes_at l.pool l.fn.start
