use Rattle.std.proofs.Common.{◌≡◌, ◌+◌, ◌-◌, ◌*◌, ◌≤◌}
use Rattle.std.specs.Prelude.{sum_by, slice_index, option_map}
use Rattle.jworld.specs.Upwards.{upwards, on_some}
use Rattle.jworld.proofs.Walking.{way_up, number}
use Rattle.b_heap.proofs.sums.summed.Given as goal

abbrev pub invariant-loop-step : goal.invariant-loop-step
invariant-loop-step l = record {
  sum : l.total + sum_by (λ c. slice_index l.numbers c) (way_up l.world (l._step-end - l._step) l.next) ≡ sum_by (λ c. slice_index l.numbers c) (on_some (upwards l.world) (option_map number l.fn.start));
  few : l.total ≤ 524288 * l._step;
}
