use Rattle.std.proofs.Common.{◌≡◌, ◌&&◌, None, filter, nat_eq, slice_index, slice_index_or}
use Rattle.std.specs.List.{range_with_len}
use Rattle.osek_core.specs.Kernel.Clock.{is_last_tick}
use Rattle.osek_time.specs.Value.{alarm_set}
use Rattle.osek_time.specs.Kept.{shown}
use Rattle.osek_time.proofs.time.due_alarms.Given as goal

-- those of the alarms so far
abbrev pub invariant-loop-alarm : goal.invariant-loop-alarm
invariant-loop-alarm l =
    l.due ≡ alarm_set (filter (λ alarm. nat_eq (slice_index l.alarms alarm) l.counter && is_last_tick (shown (slice_index_or l.armed alarm None))) (range_with_len 0 l.alarm))
