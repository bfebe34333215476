use Rattle.std.proofs.Common.{◌≡◌, ◌++◌, take, flat_map}
use Rattle.oil_out.specs.OilText.{task_text}
use Rattle.oil_out.proofs.append_tasks.Given as goal

abbrev pub invariant-loop-row : goal.invariant-loop-row
invariant-loop-row l = l.out.items ≡ l.initial.out.items ++ flat_map (task_text l.tables) (take l.row-index l.tables.tasks)
