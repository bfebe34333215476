-- How the lists that a `Core` keeps stand for its value, and what holds of them between calls.
use Rattle.std.specs.Prelude.{ℕ, ◌*◌, ◌<◌, ◌≤◌, List, map, length, All, nat_eq, slice_index_or}
use Rattle.std.specs.List.{range_with_len, IsDistinct}
use Rattle.osek_core.specs.declared.scheduler.Job.{Job}
use Rattle.osek_core.specs.declared.scheduler.Holding.{Holding}
use Rattle.osek_core.specs.declared.tables.TaskRule.{TaskRule}
use Rattle.osek_core.specs.declared.control.TaskControl.{TaskControl}
use Rattle.osek_core.specs.Core.Value.{Scheduled}
use Rattle.osek_core.specs.Core.Queue.{queues}
use Rattle.osek_core.specs.Core.Held.{resources_of}
use Rattle.osek_core.specs.Kernel.Rules.{no_task}
use Rattle.osek_core.specs.Kernel.Scheduler.{Scheduler}
use Rattle.osek_core.specs.Kernel.State.{priorities}
use Rattle.osek_core.specs.Kernel.Coherent.{IsLawful, IsCoherent}

abbrev pub scheduler_of : List TaskControl → List Job → List Holding → Scheduler
scheduler_of controls jobs holdings =
    record { ready = queues jobs; tasks = controls; held = map (resources_of holdings) (range_with_len 0 (length controls)) }

abbrev pub scheduled : List TaskRule → List ℕ → List TaskControl → List Job → List Holding → Scheduled
scheduled rules ceilings controls jobs holdings =
    record { rules = record { tasks = rules; ceilings = ceilings }; scheduler = scheduler_of controls jobs holdings }

abbrev pub priority_of : List TaskRule → ℕ → ℕ
priority_of rules task = (slice_index_or rules task no_task).priority

-- room is how many jobs fit, and spare how many resources
pub record IsSound (rules : List TaskRule) (ceilings : List ℕ) (controls : List TaskControl) (jobs : List Job) (holdings : List Holding) (room spare : ℕ) : Type 0 where
  pub few : length rules ≤ 64
  pub lawful : IsLawful (record { tasks = rules; ceilings = ceilings })
  -- there is room for each job that may come, and for each resource that may be taken
  pub roomy : 15 * length rules ≤ room
  pub spacious : length ceilings ≤ spare
  pub coherent : IsCoherent (record { tasks = rules; ceilings = ceilings }) (scheduler_of controls jobs holdings)
  pub listed : All (λ job. job.priority < priorities) jobs
  pub holders : All (λ holding. holding.task < length controls) holdings
  pub taken : All (λ holding. holding.resource < length ceilings) holdings
  -- each resource is taken at most once
  pub apart : IsDistinct nat_eq (map (λ holding. holding.resource) holdings)
