-- What holds of the scheduler after every dispatch.
use Rattle.std.specs.Prelude.{◌≡◌, ℕ, ◌+◌, ◌-◌, ◌<◌, ◌≤◌, ◌⊎◌, false, List, length, count_by, sum_by, nat_eq, if◌then◌else◌, Option, Some, None}
use Rattle.osek_core.specs.declared.control.TaskState.{TaskState}
use Rattle.osek_core.specs.declared.control.TaskState.TheVariants.{Suspended, Ready, Running, Waiting}
use Rattle.osek_core.specs.Kernel.Rules.{Rules, rule_of}
use Rattle.osek_core.specs.Kernel.Scheduler.{Scheduler, task_at, jobs_at, running, current_priority, first_job}
use Rattle.osek_core.specs.Kernel.State.{priorities}

abbrev pub count_of : ℕ → List ℕ → ℕ
count_of x xs = count_by (nat_eq x) xs

-- where a ready or running task has its jobs: the first at its current priority, and the later ones at its own
abbrev pub jobs_begun : Rules → Scheduler → ℕ → ℕ → ℕ
jobs_begun rules s task priority =
    (if nat_eq priority (current_priority rules s task) then 1 else 0)
    + (if nat_eq priority (rule_of rules task).priority then (task_at s task).activations - 1 else 0)

-- how many jobs of a task stand in the list of a priority
abbrev pub jobs_due : Rules → Scheduler → ℕ → ℕ → TaskState → ℕ
jobs_due rules s task priority Suspended = 0
jobs_due rules s task priority Ready = jobs_begun rules s task priority
jobs_due rules s task priority Running = jobs_begun rules s task priority
jobs_due rules s task priority (Waiting events) = 0

-- the running job is the first of the highest list that isn't empty, or one of a task that isn't preempted
abbrev pub RunsFirst : Rules → Scheduler → Option ℕ → Type 0
RunsFirst rules s None = first_job s.ready ≡ None
RunsFirst rules s (Some task) = (first_job s.ready ≡ Some task) ⊎ ((rule_of rules task).preemptable ≡ false)

pub record IsDispatched (rules : Rules) (s : Scheduler) : Type 0 where
  pub lists : length s.ready ≡ priorities
  pub tasks : length s.tasks ≡ length rules.tasks
  pub holders : length s.held ≡ length rules.tasks
  pub first : RunsFirst rules s (running s)
  pub one_runs : (a b : ℕ) → (task_at s a).state ≡ Running → (task_at s b).state ≡ Running → a ≡ b
  pub placed : (task priority : ℕ) → task < length rules.tasks → priority < priorities →
      count_of task (jobs_at s priority) ≡ jobs_due rules s task priority (task_at s task).state
  pub suspended : (task : ℕ) → (task_at s task).state ≡ Suspended → (task_at s task).activations ≡ 0
  pub within : (task : ℕ) → task < length rules.tasks → (task_at s task).activations ≤ (rule_of rules task).activations
  -- a resource has at most one holder, which has taken it once
  pub one_holder : (resource : ℕ) → sum_by (count_of resource) s.held ≤ 1
