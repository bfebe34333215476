-- What holds of the kernel's objects in every configuration that was read: the names of one kind differ, and each number is
-- a place in its list or within its bounds (OSEK/VDX OS 2.2.3; OIL 2.5, TASK, COUNTER and ALARM).
use Rattle.std.specs.Prelude.{◌≡◌, ◌≢◌, ◌<◌, ◌≤◌, true, List, length, All, AllPairs, Some, slice_get}
use Rattle.osek_core.specs.declared.tables.CounterRule.{CounterRule}
use Rattle.osek_core.specs.declared.tables.Start.{Start}
use Rattle.osek_core.specs.declared.tables.Action.{Action}
use Rattle.osek_core.specs.declared.tables.Action.TheVariants.{Activate, Set}
use Rattle.osek_core.specs.Tables.Limits.{IsCounterRule, IsStart}
use Rattle.kconfig.specs.declared.config.Config.{Config}
use Rattle.kconfig.specs.declared.config.NameLine.{NameLine}
use Rattle.kconfig.specs.declared.config.CounterLine.{CounterLine}
use Rattle.kconfig.specs.declared.config.TaskLine.{TaskLine}
use Rattle.kconfig.specs.declared.config.UseLine.{UseLine}
use Rattle.kconfig.specs.declared.config.WaitLine.{WaitLine}
use Rattle.kconfig.specs.declared.config.AlarmLine.{AlarmLine}
use Rattle.kconfig.specs.declared.config.StartLine.{StartLine}
use Rattle.kconfig.specs.Limits.{IsSmall}
use Rattle.kconfig.specs.Tasks.{wait_stands}

-- the numbers of a counter, and the times of an alarm
abbrev pub rule_of : CounterLine → CounterRule
rule_of x = record { max = x.max; base = x.base; min = x.min }

abbrev pub times_of : StartLine → Start
times_of x = record { first = x.first; cycle = x.cycle }

pub record IsUseOf (tasks : List TaskLine) (resources : List NameLine) (x : UseLine) : Type 0 where
  pub task : x.task < length tasks
  pub resource : x.resource < length resources

-- a task that waits has one activation
pub record IsWaitOf (tasks : List TaskLine) (events : List NameLine) (x : WaitLine) : Type 0 where
  pub task : TaskLine
  pub is_task : slice_get tasks x.task ≡ Some task
  pub once : task.acts ≤ 1
  pub event : x.event < length events

-- an alarm sets only an event that its task waits for
abbrev pub IsActionOf : List TaskLine → List WaitLine → Action → Type 0
IsActionOf tasks waits (Activate task) = task < length tasks
IsActionOf tasks waits (Set task event) = wait_stands waits task event ≡ true

pub record IsAlarmOf (counters : List CounterLine) (tasks : List TaskLine) (waits : List WaitLine) (x : AlarmLine) : Type 0 where
  pub counter : x.counter < length counters
  pub action : IsActionOf tasks waits x.action

-- the times are within the bounds of the alarm's counter
pub record IsStartOf (counters : List CounterLine) (alarms : List AlarmLine) (x : StartLine) : Type 0 where
  pub alarm : AlarmLine
  pub is_alarm : slice_get alarms x.alarm ≡ Some alarm
  pub counter : CounterLine
  pub is_counter : slice_get counters alarm.counter ≡ Some counter
  pub times : IsStart (rule_of counter) (times_of x)

pub record IsSound (c : Config) : Type 0 where
  pub small : IsSmall c
  pub counters : AllPairs (λ a b. a.name ≢ b.name) c.counters
  pub events : AllPairs (λ a b. a.name ≢ b.name) c.events
  pub resources : AllPairs (λ a b. a.name ≢ b.name) c.resources
  pub tasks : AllPairs (λ a b. a.name ≢ b.name) c.tasks
  pub alarms : AllPairs (λ a b. a.name ≢ b.name) c.alarms
  pub each_counter : All (λ x. IsCounterRule (rule_of x)) c.counters
  pub each_task : All (λ x. 1 ≤ x.acts) c.tasks
  pub each_use : All (IsUseOf c.tasks c.resources) c.uses
  pub each_wait : All (IsWaitOf c.tasks c.events) c.waits
  pub each_alarm : All (IsAlarmOf c.counters c.tasks c.waits) c.alarms
  pub each_start : All (IsStartOf c.counters c.alarms) c.starts
