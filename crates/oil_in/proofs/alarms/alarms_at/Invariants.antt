use Rattle.std.proofs.Common.{◌≡◌, ◌-◌, ◌≤◌, length, codes}
use Rattle.oil_in.specs.Forms.{header}
use Rattle.oil_in.specs.Scan.{many}
use Rattle.oil_in.specs.Alarms.{alarm_at, alarms_at}
use Rattle.oil_in.proofs.alarms.alarms_at.Given as goal

abbrev pub invariant-loop-name : goal.invariant-loop-name
invariant-loop-name l = record {
  room : length l.alarms ≤ 64;
  so_far : many (header (codes "  ALARM a_")) (alarm_at l.events l.counters l.tasks) (64 - length l.alarms) l.alarms l.scan ≡ alarms_at l.events l.counters l.tasks l.fn.start;
}

abbrev pub decreases-loop-name : goal.decreases-loop-name
decreases-loop-name l = 64 - length l.alarms
