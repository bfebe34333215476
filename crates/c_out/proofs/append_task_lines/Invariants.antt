use Rattle.std.proofs.Common.{◌≡◌, ◌++◌, take, flat_map}
use Rattle.csubset.specs.Text.Program.{task_line}
use Rattle.c_out.proofs.append_task_lines.Given as goal

abbrev pub invariant-loop-task : goal.invariant-loop-task
invariant-loop-task l = l.out.items ≡ l.initial.out.items ++ flat_map task_line (take l.task-index l.tasks)
