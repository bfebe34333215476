-- What is found, and what the way up that is left gives.
use Rattle.std.proofs.Common.{◌≡◌, ◌-◌, ◌++◌, None, filter_map, slice_index_or}
use Rattle.jworld.specs.Upwards.{upwards}
use Rattle.jworld.proofs.Walking.{way_up}
use Rattle.mentions.proofs.initialising.upwards.Given as goal

abbrev pub invariant-loop-step : goal.invariant-loop-step
invariant-loop-step l =
    l.found.items ++ filter_map (λ c. slice_index_or l.all c None) (way_up l.world (l._step-end - l._step) l.next) ≡ filter_map (λ c. slice_index_or l.all c None) (upwards l.world l.fn.class.n)
