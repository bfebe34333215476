use Rattle.std.proofs.Common.{◌≡◌, take}
use Rattle.osek_core.specs.Core.Queue.{top_job}
use Rattle.osek_core.proofs.scheduler.first_job.Given as goal

-- the first of the highest among the jobs so far
abbrev pub invariant-loop-job : goal.invariant-loop-job
invariant-loop-job l = l.first ≡ top_job (take l.job-index l.jobs)
