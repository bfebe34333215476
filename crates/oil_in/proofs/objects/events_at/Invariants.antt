use Rattle.std.proofs.Common.{◌≡◌, ◌-◌, ◌≤◌, length, codes}
use Rattle.oil_in.specs.Forms.{header}
use Rattle.oil_in.specs.Scan.{many}
use Rattle.oil_in.specs.Objects.{event_at, events_at}
use Rattle.oil_in.proofs.objects.events_at.Given as goal

abbrev pub invariant-loop-name : goal.invariant-loop-name
invariant-loop-name l = record {
  room : length l.events ≤ 31;
  so_far : many (header (codes "  EVENT e_")) event_at (31 - length l.events) l.events l.scan ≡ events_at l.fn.start;
}

abbrev pub decreases-loop-name : goal.decreases-loop-name
decreases-loop-name l = 31 - length l.events
