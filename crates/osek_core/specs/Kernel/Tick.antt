-- A tick: OSEK/VDX OS 2.2.3, section 9. Its counter goes on, the alarms that are due act in the order of the
-- configuration, and one dispatch follows. An action that is refused is lost.
use Rattle.std.specs.Prelude.{ℕ, ◌^◌, List, [], ◌∷◌, ◌++◌, nat_eq, if◌then◌else◌, slice_get, Option, Some, None}
use Rattle.osek_core.specs.declared.tables.Tables.{Tables}
use Rattle.osek_core.specs.declared.tables.AlarmRow.{AlarmRow}
use Rattle.osek_core.specs.declared.tables.Action.{Action}
use Rattle.osek_core.specs.declared.tables.Action.TheVariants.{Activate, Set}
use Rattle.osek_core.specs.Kernel.Status.{Answered, done, e_ok}
use Rattle.osek_core.specs.Kernel.Rules.{Rules, rules_of}
use Rattle.osek_core.specs.Kernel.Scheduler.{Scheduler}
use Rattle.osek_core.specs.Kernel.Clock.{clock_rules_of, due, advance}
use Rattle.osek_core.specs.Kernel.State.{Kernel}
use Rattle.osek_core.specs.Kernel.Dispatch.{dispatch}
use Rattle.osek_core.specs.Kernel.TaskServices.{activate_task}
use Rattle.osek_core.specs.Kernel.EventServices.{set_event}

-- the kernel after a tick, and the alarms whose action was lost
pub record Ticked : Type 0 where
  pub kernel : Kernel
  pub lost : List ℕ

-- OIL 2.5, ALARM: `ACTIVATETASK` or `SETEVENT`
abbrev pub act : Rules → Scheduler → Action → Answered Scheduler
act rules s (Activate task) = activate_task rules s task
act rules s (Set task event) = set_event rules s task (2 ^ event)

-- the action of the alarm in this row
abbrev pub act_row : Rules → Scheduler → Option AlarmRow → Answered Scheduler
act_row rules s None = done s
act_row rules s (Some row) = act rules s row.action

-- these alarms act one after another
pub record Acted : Type 0 where
  pub scheduler : Scheduler
  pub lost : List ℕ

abbrev pub act_all : Tables → Scheduler → List ℕ → Acted
act_all tables s [] = record { scheduler = s; lost = [] }
act_all tables s (alarm ∷ later) =
    let first = act_row (rules_of tables) s (slice_get tables.alarms alarm) in
    let rest = act_all tables first.state later in
    record { scheduler = rest.scheduler; lost = (if nat_eq first.status e_ok then [] else alarm ∷ []) ++ rest.lost }

abbrev pub tick : Tables → Kernel → ℕ → Ticked
tick tables k counter =
    let rules = clock_rules_of tables in
    let acted = act_all tables k.scheduler (due rules k.clock counter) in
    record {
      kernel = record k { scheduler = dispatch (rules_of tables) acted.scheduler; clock = advance rules k.clock counter };
      lost = acted.lost;
    }
