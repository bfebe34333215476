use Rattle.std.proofs.Common.{◌≡◌, map}
use Rattle.std.specs.List.{range_with_len}
use Rattle.osek_core.specs.Kernel.Rules.{ceiling}
use Rattle.osek_model.proofs.plan.ceilings.Given as goal

-- those of the resources so far
abbrev pub invariant-loop-resource : goal.invariant-loop-resource
invariant-loop-resource l = l.ceilings.items ≡ map (ceiling l.tasks) (range_with_len 0 l.resource)
