-- The ceiling of a resource, by the lines of a configuration (OSEK/VDX OS 2.2.3, section 8.5).
use Rattle.std.specs.Prelude.{◌≡◌, ◌≤◌, ◌⊎◌, ℕ, All, Some, slice_get}
use Rattle.std.specs.List.{Any}
use Rattle.kconfig.specs.declared.config.Config.{Config}
use Rattle.kconfig.specs.declared.config.TaskLine.{TaskLine}
use Rattle.kconfig.specs.declared.config.UseLine.{UseLine}

-- the line says that a task of this priority uses the resource
pub record IsUsedAt (c : Config) (resource : ℕ) (priority : ℕ) (x : UseLine) : Type 0 where
  pub resource_is : x.resource ≡ resource
  pub task : TaskLine
  pub is_task : slice_get c.tasks x.task ≡ Some task
  pub priority_is : task.prio ≡ priority

-- the greatest priority of the tasks that use the resource, and 0 where none does
pub record IsCeiling (c : Config) (resource : ℕ) (ceiling : ℕ) : Type 0 where
  pub greatest : All (λ x. (priority : ℕ) → IsUsedAt c resource priority x → priority ≤ ceiling) c.uses
  pub reached : (ceiling ≡ 0) ⊎ Any (IsUsedAt c resource ceiling) c.uses
