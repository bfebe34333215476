use Rattle.std.proofs.Common.{◌≡◌, ◌-◌}
use Rattle.classfile.specs.Scan.{repeat}
use Rattle.stackmap.specs.Items.{another_item, items_at}
use Rattle.stackmap.proofs.items.items_at.Given as goal

abbrev pub invariant-loop : goal.invariant-loop
invariant-loop l = repeat (l.count - l.counter) (another_item l.table) (l.items, l.rest) ≡ items_at l.table l.fn.before l.count l.fn.rest
