use Rattle.kconfig.proofs.Filling.{none_set}
use Rattle.kconfig.proofs.task_masks.used_by_task.Goals as goal

pub loop-line-init : goal.loop-line-init
loop-line-init c = λ task place task_less place_less. none_set task place task_less
