-- The classes that were passed, and those of the way up that is left.
use Rattle.std.proofs.Common.{◌≡◌, ◌+◌, ◌-◌, ◌≤◌, length}
use Rattle.jworld.specs.Upwards.{upwards}
use Rattle.jworld.proofs.Walking.{way_up}
use Rattle.reach.proofs.starts.height.Given as goal

abbrev pub invariant-loop-step : goal.invariant-loop-step
invariant-loop-step l = (l.height ≤ l._step) × (l.height + length (way_up l.world (l._step-end - l._step) l.next) ≡ length (upwards l.world l.fn.class.n))
