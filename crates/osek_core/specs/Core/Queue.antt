-- The lists of jobs as `Core` keeps them: one list of jobs, each with its current priority. Those of one priority
-- stand in their order.
use Rattle.std.specs.Prelude.{ℕ, Bool, List, [], ◌∷◌, map, filter, fold, nat_eq, nat_lt, Option, Some, None, if◌then◌else◌, slice_set, slice_index_or}
use Rattle.std.specs.List.{range_with_len}
use Rattle.osek_core.specs.declared.control.TaskControl.{TaskControl}
use Rattle.osek_core.specs.declared.control.TaskState.TheVariants.{Running}
use Rattle.osek_core.specs.declared.scheduler.Job.{Job}
use Rattle.osek_core.specs.Kernel.Scheduler.{idle}
use Rattle.osek_core.specs.Kernel.State.{priorities}

-- the tasks of the jobs of this priority
abbrev pub queue : List Job → ℕ → List ℕ
queue jobs priority = map (λ job. job.task) (filter (λ job. nat_eq job.priority priority) jobs)

abbrev pub queues : List Job → List (List ℕ)
queues jobs = map (queue jobs) (range_with_len 0 priorities)

-- the first of the jobs with the highest priority, where one comes behind the first of those before it
abbrev pub higher : Option Job → Job → Option Job
higher None job = Some job
higher (Some first) job = if nat_lt first.priority job.priority then Some job else Some first

-- the first of the jobs with the highest priority
abbrev pub top_job : List Job → Option Job
top_job jobs = fold higher None jobs

-- the list without the first item that passes the test
abbrev pub without : {X : Type 0} → (X → Bool) → List X → List X
without test [] = []
without test (x ∷ xs) = if test x then xs else x ∷ without test xs

-- the jobs without the first one of this priority
abbrev pub without_first : List Job → ℕ → List Job
without_first jobs priority = without (λ job. nat_eq job.priority priority) jobs

-- the control blocks when the task of the first job of the highest priority runs
abbrev pub with_top_running : List TaskControl → List Job → List TaskControl
with_top_running controls jobs = run (top_job jobs)
  where
    run : Option Job → List TaskControl
    run None = controls
    run (Some job) = slice_set controls job.task (record (slice_index_or controls job.task idle) { state = Running })

-- the jobs after the first one of a priority became the first of another, where they differ
abbrev pub with_first_moved : List Job → ℕ → ℕ → ℕ → List Job
with_first_moved jobs before after task =
    if nat_eq before after then jobs else record { task = task; priority = after } ∷ without_first jobs before
