-- What holds of the scheduler after every service, also before the dispatch that follows it.
use Rattle.std.specs.Prelude.{◌≡◌, ℕ, ◌+◌, ◌-◌, ◌≤◌, max, true, List, [], map, fold, length, All, sum_by, nat_eq, if◌then◌else◌, slice_get, slice_index_or, Some}
use Rattle.osek_core.specs.declared.control.TaskState.{TaskState}
use Rattle.osek_core.specs.declared.control.TaskState.TheVariants.{Suspended, Ready, Running, Waiting}
use Rattle.osek_core.specs.declared.control.TaskControl.{TaskControl}
use Rattle.osek_core.specs.Tables.Limits.{IsTaskRule}
use Rattle.osek_core.specs.Kernel.Rules.{Rules, rule_of, ceiling_of}
use Rattle.osek_core.specs.Kernel.Scheduler.{Scheduler, task_at, held_by}
use Rattle.osek_core.specs.Kernel.State.{priorities}
use Rattle.osek_core.specs.Kernel.Invariant.{count_of}

-- the numbers of tasks and resources are within their bounds
pub record IsLawful (rules : Rules) : Type 0 where
  pub tasks : All IsTaskRule rules.tasks
  pub ceilings : All (λ ceiling. ceiling ≤ 63) rules.ceilings

-- the current priority of a task that holds these resources
abbrev pub raised : Rules → ℕ → List ℕ → ℕ
raised rules task held = fold max (rule_of rules task).priority (map (ceiling_of rules) held)

-- how many jobs of a task stand in lists
abbrev pub jobs_standing : TaskControl → ℕ
jobs_standing control = from control.state
  where
    from : TaskState → ℕ
    from Suspended = 0
    from Ready = control.activations
    from Running = control.activations
    from (Waiting events) = 0

-- how many jobs of a task in this state stand in the list of a priority: the first at the current one, and the
-- later ones at its own
abbrev pub jobs_listed : Rules → ℕ → List ℕ → TaskControl → ℕ → ℕ
jobs_listed rules task held control priority = from control.state
  where
    begun : ℕ
    begun =
        (if nat_eq priority (raised rules task held) then 1 else 0)
        + (if nat_eq priority (rule_of rules task).priority then control.activations - 1 else 0)

    from : TaskState → ℕ
    from Suspended = 0
    from Ready = begun
    from Running = begun
    from (Waiting events) = 0

-- the task is the first of the list of its current priority
abbrev pub LeadsAt : List (List ℕ) → ℕ → ℕ → Type 0
LeadsAt ready priority task = slice_get (slice_index_or ready priority []) 0 ≡ Some task

-- what a task's state says of its activations and its resources
abbrev pub FitsState : Rules → List (List ℕ) → ℕ → List ℕ → TaskControl → TaskState → Type 0
FitsState rules ready task held control Suspended = (control.activations ≡ 0) × (held ≡ [])
FitsState rules ready task held control Ready = 1 ≤ control.activations
FitsState rules ready task held control Running = (1 ≤ control.activations) × LeadsAt ready (raised rules task held) task
FitsState rules ready task held control (Waiting events) =
    (control.activations ≡ 1) × (held ≡ []) × ((rule_of rules task).extended ≡ true)

pub record IsTaskCoherent (rules : Rules) (ready : List (List ℕ)) (task : ℕ) (held : List ℕ) (control : TaskControl) : Type 0 where
  pub placed : (priority : ℕ) → count_of task (slice_index_or ready priority []) ≡ jobs_listed rules task held control priority
  pub state : FitsState rules ready task held control control.state
  pub within : control.activations ≤ (rule_of rules task).activations

pub record IsCoherent (rules : Rules) (s : Scheduler) : Type 0 where
  pub lists : length s.ready ≡ priorities
  pub tasks : length s.tasks ≡ length rules.tasks
  pub holders : length s.held ≡ length rules.tasks
  pub one_runs : (a b : ℕ) → (task_at s a).state ≡ Running → (task_at s b).state ≡ Running → a ≡ b
  pub each : (task : ℕ) → IsTaskCoherent rules s.ready task (held_by s task) (task_at s task)
  pub counted : sum_by length s.ready ≤ sum_by jobs_standing s.tasks
  -- a resource has at most one holder, which has taken it once
  pub one_holder : (resource : ℕ) → sum_by (count_of resource) s.held ≤ 1
