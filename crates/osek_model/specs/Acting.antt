-- What the kernel does to its parts, step by step: at a tick, and when it starts.
use Rattle.std.specs.Prelude.{ℕ, Bool, false, List, [], ◌∷◌, ◌++◌, fold, nat_eq, if◌then◌else◌, slice_get, slice_index_or, Option, Some, None}
use Rattle.osek_core.specs.declared.tables.Action.{Action}
use Rattle.osek_core.specs.declared.tables.Start.{Start}
use Rattle.osek_core.specs.Kernel.Status.{Answered, done, e_ok}
use Rattle.osek_core.specs.Kernel.Rules.{Rules}
use Rattle.osek_core.specs.Kernel.Scheduler.{Scheduler}
use Rattle.osek_core.specs.Kernel.Clock.{Clock, ClockRules, places}
use Rattle.osek_core.specs.Kernel.AlarmServices.{set_rel_alarm}
use Rattle.osek_core.specs.Kernel.TaskServices.{activate_task}
use Rattle.osek_core.specs.Kernel.Tick.{Acted, act}

-- these alarms act one after another, each by its action
abbrev pub act_action : Rules → Scheduler → Option Action → Answered Scheduler
act_action rules s None = done s
act_action rules s (Some action) = act rules s action

abbrev pub lost_of : Answered Scheduler → ℕ → List ℕ
lost_of a alarm = if nat_eq a.status e_ok then [] else alarm ∷ []

abbrev pub act_list : Rules → List Action → Scheduler → List ℕ → Acted
act_list rules actions s [] = record { scheduler = s; lost = [] }
act_list rules actions s (alarm ∷ later) =
    let first = act_action rules s (slice_get actions alarm) in
    let rest = act_list rules actions first.state later in
    record { scheduler = rest.scheduler; lost = lost_of first alarm ++ rest.lost }

-- the tasks with autostart are activated
abbrev pub activate_marked : Rules → List Bool → Scheduler → ℕ → Scheduler
activate_marked rules autos s task = if slice_index_or autos task false then (activate_task rules s task).state else s

abbrev pub activate_all : Rules → List Bool → Scheduler → Scheduler
activate_all rules autos s = fold (activate_marked rules autos) s (places autos)

-- the alarms with autostart are set
abbrev pub arm_started : ClockRules → Clock → ℕ → Option Start → Clock
arm_started rules clock alarm None = clock
arm_started rules clock alarm (Some start) = (set_rel_alarm rules clock alarm start.first start.cycle).state

abbrev pub arm_all : ClockRules → List (Option Start) → Clock → Clock
arm_all rules starts clock = fold (λ c alarm. arm_started rules c alarm (slice_index_or starts alarm None)) clock (places starts)
