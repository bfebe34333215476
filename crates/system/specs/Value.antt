-- The value of a `System`, and what it is at first.
use Rattle.std.specs.Prelude.{Bool, true, false, Option, Some, None}
use Rattle.osek_core.specs.declared.tables.Tables.{Tables}
use Rattle.osek_core.specs.declared.event.Who.{Who}
use Rattle.osek_core.specs.declared.event.Who.TheVariants.{Start, Task}
use Rattle.osek_core.specs.Kernel.System.{System, new_system, start_system}
use Rattle.osek_model.specs.Plan.{Plan}
use Rattle.osek_model.specs.Value.{Planned}

pub record PlannedSystem : Type 0 where
  pub plan : Plan
  pub system : System

abbrev pub planned : Planned → Bool → PlannedSystem
planned kernel started = record { plan = kernel.plan; system = record { kernel = kernel.kernel; started = started } }

-- without initialisers the kernel is started before the first move
abbrev pub first_system : Tables → Bool → System
first_system tables true = new_system tables
first_system tables false = start_system tables (new_system tables)

-- a job acts
abbrev pub IsJob : Option Who → Type 0
IsJob None = ⊥
IsJob (Some Start) = ⊥
IsJob (Some (Task task)) = Unit {0}
