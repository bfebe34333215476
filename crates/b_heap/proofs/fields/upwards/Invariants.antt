use Rattle.std.proofs.Common.{◌≡◌, ◌+◌, ◌-◌, ◌++◌, map}
use Rattle.jworld.specs.Upwards.{upwards}
use Rattle.jworld.proofs.Walking.{way_up, number}
use Rattle.b_heap.proofs.fields.upwards.Given as goal

abbrev pub invariant-loop-step : goal.invariant-loop-step
invariant-loop-step l = map number l.found.items ++ way_up l.world (l._step-end - l._step) l.next ≡ upwards l.world l.fn.class.n
