-- OSEK/VDX OS 2.2.3, sections 4.5 and 4.6: which job runs.
-- The first job of the highest list runs. Where another one ran, it is preempted and stays the first of its list.
-- A running job of a task with `SCHEDULE = NON` goes on until it gives way.
use Rattle.std.specs.Prelude.{ℕ, Option, Some, None, if◌then◌else◌}
use Rattle.osek_core.specs.declared.control.TaskState.TheVariants.{Ready, Running}
use Rattle.osek_core.specs.Kernel.Rules.{Rules, rule_of}
use Rattle.osek_core.specs.Kernel.Scheduler.{Scheduler, running, first_job, set_state}

-- the job becomes running, if there is one
abbrev pub run_job : Scheduler → Option ℕ → Scheduler
run_job s None = s
run_job s (Some task) = set_state s task Running

abbrev pub run_first : Scheduler → Scheduler
run_first s = run_job s (first_job s.ready)

abbrev pub dispatch : Rules → Scheduler → Scheduler
dispatch rules s = after (running s)
  where
    after : Option ℕ → Scheduler
    after None = run_first s
    after (Some task) =
        if (rule_of rules task).preemptable then run_first (set_state s task Ready) else s
