use Rattle.std.proofs.Common.{◌≡◌, ◌-◌, ◌≤◌, length, codes}
use Rattle.oil_in.specs.Forms.{header}
use Rattle.oil_in.specs.Scan.{many}
use Rattle.oil_in.specs.Tasks.{task_at, tasks_at}
use Rattle.oil_in.proofs.tasks.tasks_at.Given as goal

abbrev pub invariant-loop-name : goal.invariant-loop-name
invariant-loop-name l = record {
  room : length l.tasks ≤ 64;
  so_far : many (header (codes "  TASK t_")) (task_at l.resources l.events) (64 - length l.tasks) l.tasks l.scan ≡ tasks_at l.resources l.events l.fn.start;
}

abbrev pub decreases-loop-name : goal.decreases-loop-name
decreases-loop-name l = 64 - length l.tasks
