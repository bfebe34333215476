use Rattle.std.proofs.Common.{◌≡◌, ◌≤◌, ◌*◌, ◌-◌}
use Rattle.jnames.specs.Descriptors.{parameters_at, slots_at}
use Rattle.jnames.proofs.CountingSlots.{with_slots}
use Rattle.jnames.proofs.slots.slots_at.Given as goal

abbrev pub invariant-loop : goal.invariant-loop
invariant-loop l = record {
  bound : l.slots ≤ 2 * l.counter;
  read : with_slots l.slots (parameters_at (255 - l.counter) l.rest) ≡ slots_at 255 l.bytes;
}
