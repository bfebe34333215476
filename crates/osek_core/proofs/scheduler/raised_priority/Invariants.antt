use Rattle.std.proofs.Common.{◌≡◌, take}
use Rattle.osek_core.specs.Core.Held.{highest_of}
use Rattle.osek_core.proofs.scheduler.raised_priority.Given as goal

-- the greatest of those so far
abbrev pub invariant-loop-holding : goal.invariant-loop-holding
invariant-loop-holding l = l.highest ≡ highest_of l.own l.ceilings (take l.holding-index l.holdings) l.task
