-- What the kernel keeps of an application's tables.
use Rattle.std.specs.Prelude.{◌≡◌, ℕ, ◌<◌, ◌≤◌, Bool, List, map, length, All, IfSome, None, Option, slice_index_or}
use Rattle.osek_core.specs.declared.tables.Tables.{Tables}
use Rattle.osek_core.specs.declared.tables.Action.{Action}
use Rattle.osek_core.specs.declared.tables.Action.TheVariants.{Activate, Set}
use Rattle.osek_core.specs.declared.tables.Start.{Start}
use Rattle.osek_core.specs.Tables.Limits.{IsTaskRule, IsStart}
use Rattle.osek_core.specs.Kernel.Rules.{Rules, rules_of}
use Rattle.osek_core.specs.Kernel.Clock.{ClockRules, Clock, clock_rules_of, counter_of, rule_of_counter}

pub record Plan : Type 0 where
  pub rules : Rules
  pub clock : ClockRules
  -- whether each task is activated when the kernel starts
  pub autos : List Bool
  -- what each alarm does, and when it is first due if it starts with the kernel
  pub actions : List Action
  pub starts : List (Option Start)

abbrev pub plan_of : Tables → Plan
plan_of tables =
    record {
      rules = rules_of tables;
      clock = clock_rules_of tables;
      autos = map (λ row. row.auto) tables.tasks;
      actions = map (λ row. row.action) tables.alarms;
      starts = map (λ row. row.start) tables.alarms;
    }

-- this holds of the tables that the plan was made of
abbrev pub OfItsTables : Plan → (Tables → Type 0) → Type 0
OfItsTables plan P = (tables : Tables) → plan_of tables ≡ plan → P tables

-- the task of an action is there, and its event has a bit
abbrev pub IsActionIn : ℕ → Action → Type 0
IsActionIn tasks (Activate task) = task < tasks
IsActionIn tasks (Set task event) = (task < tasks) × (event < 32)

-- what holds of a plan, and of the clock under it
pub record IsPlanned (plan : Plan) (clock : Clock) : Type 0 where
  pub lawful : All IsTaskRule plan.rules.tasks
  pub autos : length plan.autos ≡ length plan.rules.tasks
  pub actions : length plan.actions ≡ length plan.clock.alarms
  pub starts : length plan.starts ≡ length plan.clock.alarms
  pub few : length plan.clock.alarms ≤ 64
  pub small : length plan.rules.tasks ≤ 64
  pub acts : All (IsActionIn (length plan.rules.tasks)) plan.actions
  pub started : (alarm : ℕ) → IfSome (slice_index_or plan.starts alarm None) (IsStart (rule_of_counter plan.clock (counter_of plan.clock alarm)))
  pub alarms : length clock.alarms ≡ length plan.clock.alarms
