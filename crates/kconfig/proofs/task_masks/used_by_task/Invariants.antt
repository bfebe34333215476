use Rattle.std.proofs.Common.{take}
use Rattle.kconfig.specs.Tasks.{use_stands}
use Rattle.kconfig.specs.Masks.{AreMasks}
use Rattle.kconfig.proofs.task_masks.used_by_task.Given as goal

abbrev pub invariant-loop-line : goal.invariant-loop-line
invariant-loop-line l = AreMasks (use_stands (take l.line-index l.uses)) l.masks
