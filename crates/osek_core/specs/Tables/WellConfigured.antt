-- When the tables of an application are well configured.
use Rattle.std.specs.Prelude.{◌≡◌, ◌≢◌, ◌<◌, ◌↔◌, true, List, [], length, map, All, AllPairs, Contains, IfSome, Some, slice_get}
use Rattle.std.specs.List.Sorted.{IsStrictlyIncreasing}
use Rattle.osek_core.specs.declared.tables.Name.{Name}
use Rattle.osek_core.specs.declared.tables.TaskRow.{TaskRow}
use Rattle.osek_core.specs.declared.tables.CounterRow.{CounterRow}
use Rattle.osek_core.specs.declared.tables.AlarmRow.{AlarmRow}
use Rattle.osek_core.specs.declared.tables.Action.{Action}
use Rattle.osek_core.specs.declared.tables.Action.TheVariants.{Activate, Set}
use Rattle.osek_core.specs.declared.tables.Tables.{Tables}
use Rattle.osek_core.specs.Tables.Limits.{IsTaskRule, IsCounterRule, IsStart, IsSmall}

-- the names of one kind differ
abbrev pub Differ : List Name → Type 0
Differ = AllPairs (λ a b. a.text ≢ b.text)

-- a task's resources and events are there and rise, and it is extended exactly where it has an event
pub record IsTaskOf (tables : Tables) (row : TaskRow) : Type 0 where
  pub rule : IsTaskRule row.rule
  pub resources : All (λ resource. resource < length tables.resources) row.resources
  pub resources_rise : IsStrictlyIncreasing row.resources
  pub events : All (λ event. event < length tables.events) row.events
  pub events_rise : IsStrictlyIncreasing row.events
  pub extended : (row.rule.extended ≡ true) ↔ (row.events ≢ [])

-- an alarm sets only an event that its task waits for
abbrev pub IsActionOf : Tables → Action → Type 0
IsActionOf tables (Activate task) = task < length tables.tasks
IsActionOf tables (Set task event) = (row : TaskRow) × ((slice_get tables.tasks task ≡ Some row) × Contains row.events event)

pub record IsAlarmOf (tables : Tables) (row : AlarmRow) : Type 0 where
  pub action : IsActionOf tables row.action
  pub counter : (counter : CounterRow) × ((slice_get tables.counters row.counter ≡ Some counter) × IfSome row.start (IsStart counter.rule))

pub record IsWellConfigured (tables : Tables) : Type 0 where
  pub small : IsSmall tables
  pub events : Differ tables.events
  pub resources : Differ tables.resources
  pub counters : Differ (map (λ row. row.name) tables.counters)
  pub tasks : Differ (map (λ row. row.name) tables.tasks)
  pub alarms : Differ (map (λ row. row.name) tables.alarms)
  pub each_counter : All (λ row. IsCounterRule row.rule) tables.counters
  pub each_task : All (IsTaskOf tables) tables.tasks
  pub each_alarm : All (IsAlarmOf tables) tables.alarms
