use Rattle.std.proofs.Common.{◌<◌, sym, ◌∙◌, subst}
use Rattle.osek_core.specs.Core.Value.{Scheduled}
use Rattle.osek_core.specs.Kernel.Rules.{rule_of}
use Rattle.osek_core.specs.Kernel.Scheduler.{task_at}
use Rattle.osek_core.specs.Kernel.TaskServices.{end_job}
use Rattle.osek_core.proofs.Scheduling.{other-below}
use Rattle.osek_core.proofs.scheduler.Core.chain.Goals.{else-task-own-via-then-task-own+else-is_at_limit, else-task-own-via-else-task-own}
use Rattle.osek_core.proofs.scheduler.Core.chain.Goals as goal

pub add_job-requires-clause-limit : goal.add_job-requires-clause-limit
add_job-requires-clause-limit c =
    let task = c.args.task in
    let own = c.caller-own.result in
    let k = c.args.self.now in
    subst (λ (x : Scheduled). (task_at x.scheduler task).activations < (rule_of x.rules task).activations) (sym c.end_job.ensures.state) (elim c.else-task-own.branch [
      | else-task-own-via-then-task-own+else-is_at_limit w ↦ other-below k.rules k.scheduler own task w.if-task-own.true (sym w.is_at_limit.ensures ∙ w.if-is_at_limit.false)
      | else-task-own-via-else-task-own w ↦ subst (λ t. (task_at (end_job k.rules k.scheduler own) t).activations < (rule_of k.rules t).activations) (sym w.if-task-own.false) c.end_job.ensures.below
    ])
