use Rattle.std.proofs.Common.{◌≡◌, ◌-◌}
use Rattle.classfile.specs.Scan.{repeat, collect}
use Rattle.classfile.specs.Members.{field_at, fields_at}
use Rattle.classfile.proofs.members.fields_at.Given as goal

abbrev pub invariant-loop : goal.invariant-loop
invariant-loop l = repeat (l.count - l.counter) (collect (field_at l.pool)) (l.fields.items, l.scan) ≡ fields_at l.pool l.fn.start
