-- The scheduler's state: OSEK/VDX OS 2.2.3, sections 4 (task management) and 8 (resource management).
-- A job is an activation of a task, and is named by its task. Of one task's jobs only the first has begun.
use Rattle.std.specs.Prelude.{ℕ, max, Bool, true, false, List, [], ◌∷◌, ◌++◌, map, drop, fold, Option, Some, None, nat_eq, if◌then◌else◌, slice_get, slice_set, slice_index_or, position, unwrap_or}
use Rattle.osek_core.specs.declared.control.TaskState.{TaskState}
use Rattle.osek_core.specs.declared.control.TaskState.TheVariants.{Suspended, Ready, Running, Waiting}
use Rattle.osek_core.specs.declared.control.TaskControl.{TaskControl}
use Rattle.osek_core.specs.Kernel.Rules.{Rules, rule_of, ceiling_of}

pub record Scheduler : Type 0 where
  -- for each priority, from 0 on, its jobs in order; a job that waits stands in none
  pub ready : List (List ℕ)
  -- each task's control block
  pub tasks : List TaskControl
  -- for each task the resources that it holds, in the order taken
  pub held : List (List ℕ)

-- a task that was never activated
abbrev pub idle : TaskControl
idle = record { state = Suspended; activations = 0; events = 0 }

abbrev pub task_at : Scheduler → ℕ → TaskControl
task_at s task = slice_index_or s.tasks task idle

abbrev pub held_by : Scheduler → ℕ → List ℕ
held_by s task = slice_index_or s.held task []

abbrev pub jobs_at : Scheduler → ℕ → List ℕ
jobs_at s priority = slice_index_or s.ready priority []

abbrev pub is_running : TaskControl → Bool
is_running control = runs control.state
  where
    runs : TaskState → Bool
    runs Running = true
    runs Suspended = false
    runs Ready = false
    runs (Waiting events) = false

-- the running task, if there is one
abbrev pub running : Scheduler → Option ℕ
running s = position is_running s.tasks

-- the task that calls a service; services are called only where one runs
abbrev pub caller : Scheduler → ℕ
caller s = unwrap_or (running s) 0

-- section 8.5: the greatest of the task's priority and the ceilings of the resources that it holds
abbrev pub current_priority : Rules → Scheduler → ℕ → ℕ
current_priority rules s task =
    fold max (rule_of rules task).priority (map (ceiling_of rules) (held_by s task))

abbrev pub set_task : Scheduler → ℕ → TaskControl → Scheduler
set_task s task control = record s { tasks = slice_set s.tasks task control }

abbrev pub set_state : Scheduler → ℕ → TaskState → Scheduler
set_state s task state = set_task s task (record (task_at s task) { state = state })

abbrev pub set_jobs : Scheduler → ℕ → List ℕ → Scheduler
set_jobs s priority jobs = record s { ready = slice_set s.ready priority jobs }

-- the job becomes the last of this priority
abbrev pub add_last : Scheduler → ℕ → ℕ → Scheduler
add_last s priority task = set_jobs s priority (jobs_at s priority ++ task ∷ [])

-- the job becomes the first of this priority
abbrev pub add_first : Scheduler → ℕ → ℕ → Scheduler
add_first s priority task = set_jobs s priority (task ∷ jobs_at s priority)

-- the first job of this priority leaves its list
abbrev pub remove_first : Scheduler → ℕ → Scheduler
remove_first s priority = set_jobs s priority (drop 1 (jobs_at s priority))

-- the first job of one priority becomes the first of another, where they differ
abbrev pub move_first : Scheduler → ℕ → ℕ → ℕ → Scheduler
move_first s before after task =
    if nat_eq before after then s else add_first (remove_first s before) after task

-- the first job of the highest list that isn't empty; the lists are given from the lowest priority on
abbrev pub first_job : List (List ℕ) → Option ℕ
first_job [] = None
first_job (jobs ∷ higher) = or_first (first_job higher) jobs
  where
    or_first : Option ℕ → List ℕ → Option ℕ
    or_first (Some task) jobs = Some task
    or_first None jobs = slice_get jobs 0
