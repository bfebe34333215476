use Rattle.std.proofs.Common.{◌≡◌, ◌-◌, ◌≤◌, length, codes}
use Rattle.oil_in.specs.Forms.{header}
use Rattle.oil_in.specs.Scan.{many}
use Rattle.oil_in.specs.Objects.{counter_at, counters_at}
use Rattle.oil_in.proofs.objects.counters_at.Given as goal

abbrev pub invariant-loop-name : goal.invariant-loop-name
invariant-loop-name l = record {
  room : length l.counters ≤ 8;
  so_far : many (header (codes "  COUNTER c_")) counter_at (8 - length l.counters) l.counters l.scan ≡ counters_at l.fn.start;
}

abbrev pub decreases-loop-name : goal.decreases-loop-name
decreases-loop-name l = 8 - length l.counters
