use Rattle.std.proofs.Common.{◌≡◌, map, take}
use Rattle.std.specs.List.{enumerate_from}
use Rattle.kconfig.specs.Tables.{task_row}
use Rattle.kconfig.proofs.task_rows.task_rows.Given as goal

abbrev pub invariant-loop-at : goal.invariant-loop-at
invariant-loop-at l = l.rows ≡ map (λ x. task_row l.config x.0 x.1) (take l.at (enumerate_from 0 l.config.tasks))
