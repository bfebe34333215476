use Rattle.std.proofs.Common.{take}
use Rattle.kconfig.specs.Tasks.{wait_stands}
use Rattle.kconfig.specs.Masks.{AreMasks}
use Rattle.kconfig.proofs.task_masks.waited_by_task.Given as goal

abbrev pub invariant-loop-line : goal.invariant-loop-line
invariant-loop-line l = AreMasks (wait_stands (take l.line-index l.waits)) l.masks
