use Rattle.std.proofs.Common.{◌≡◌, ℕ, ◌<◌, ◌≤◌, None, nat_eq, if◌then◌else◌, length, slice_index, slice_index_or}
use Rattle.osek_core.specs.Kernel.Clock.{counted_down}
use Rattle.osek_time.specs.Kept.{shown}
use Rattle.osek_time.proofs.time.count_down.Given as goal

-- the alarms so far were counted down, and the others are as they were
abbrev pub invariant-loop-alarm : goal.invariant-loop-alarm
invariant-loop-alarm l = record {
  long : length l.armed ≡ length l.fn.armed;
  done : (k : ℕ) → k < l.alarm →
      shown (slice_index_or l.armed k None) ≡ (if nat_eq (slice_index l.alarms k) l.counter then counted_down (shown (slice_index_or l.fn.armed k None)) else shown (slice_index_or l.fn.armed k None));
  left : (k : ℕ) → l.alarm ≤ k → slice_index_or l.armed k None ≡ slice_index_or l.fn.armed k None;
}
