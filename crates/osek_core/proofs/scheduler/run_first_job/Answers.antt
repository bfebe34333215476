use Rattle.std.proofs.Common.{◌∙◌, sym, ◌<◌, length}
use Rattle.osek_core.proofs.Queues.{top_job-All}
use Rattle.osek_core.proofs.scheduler.run_first_job.Goals as goal

pub set_state-requires : goal.set_state-requires
set_state-requires c =
    top_job-All (λ job. job.task < length c.args.controls.now) c.args.jobs.now c.in-Some.job c.requires (sym c.first_job.ensures ∙ c.in-Some.is)
