use Rattle.std.proofs.Common.{◌≡◌, take}
use Rattle.osek_core.specs.Kernel.Rules.{ceiling}
use Rattle.osek_model.proofs.plan.ceiling.Given as goal

-- the greatest of those so far
abbrev pub invariant-loop-row : goal.invariant-loop-row
invariant-loop-row l = l.highest ≡ ceiling (take l.row-index l.tasks) l.resource
