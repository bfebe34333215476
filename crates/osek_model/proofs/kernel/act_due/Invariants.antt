use Rattle.std.proofs.Common.{◌≡◌, filter}
use Rattle.std.specs.List.{range_with_len}
use Rattle.osek_time.specs.Value.{alarm_set, is_due}
use Rattle.osek_model.specs.Acting.{act_list}
use Rattle.osek_model.proofs.kernel.act_due.Given as goal

-- the alarms so far that are due have acted
abbrev pub invariant-loop-alarm : goal.invariant-loop-alarm
invariant-loop-alarm l = record {
  state : l.core ≡ record l.fn.core { scheduler = (act_list l.fn.core.rules l.actions l.fn.core.scheduler (filter (is_due l.time.rules l.time.clock l.counter) (range_with_len 0 l.alarm))).scheduler };
  lost : l.lost ≡ alarm_set (act_list l.fn.core.rules l.actions l.fn.core.scheduler (filter (is_due l.time.rules l.time.clock l.counter) (range_with_len 0 l.alarm))).lost;
}
