use Rattle.std.proofs.Common.{◌≡◌, filter}
use Rattle.std.specs.List.{range_with_len}
use Rattle.system.specs.Lost.{is_in}
use Rattle.system.proofs.lost.lost_alarms.Given as goal

abbrev pub invariant-loop-alarm : goal.invariant-loop-alarm
invariant-loop-alarm l = l.alarms.items ≡ filter (is_in l.set) (range_with_len 0 l.alarm)
