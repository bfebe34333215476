use Rattle.std.proofs.Common.{◌≡◌, ◌-◌}
use Rattle.classfile.specs.Scan.{repeat}
use Rattle.classfile.specs.Entries.{next_place, places_at}
use Rattle.classfile.proofs.entries.pool_at.Given as goal

abbrev pub invariant-loop : goal.invariant-loop
invariant-loop l = repeat (l.count - 1 - l.counter) (next_place l.version) (l.entries.items, l.wide, l.scan) ≡ places_at l.version l.fn.start
