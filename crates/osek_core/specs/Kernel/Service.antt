-- OSEK/VDX OS 2.2.3, section 13: a service that the running job calls. One dispatch follows it.
use Rattle.std.specs.Prelude.{ℕ, ℤ, pos, neg_ℤ, Bool, true, false, ◌&&◌, nat_eq, Result, Ok, Err}
use Rattle.std.specs.Int.{w32, cast_signed}
use Rattle.osek_core.specs.declared.call.Call.{Call}
use Rattle.osek_core.specs.declared.call.Call.TheVariants.{ActivateTask, TerminateTask, ChainTask, Schedule, GetResource, ReleaseResource, SetEvent, ClearEvent, GetEvent, WaitEvent, SetRelAlarm, SetAbsAlarm, CancelAlarm, GetAlarm}
use Rattle.osek_core.specs.declared.tables.Tables.{Tables}
use Rattle.osek_core.specs.Kernel.Status.{Answered, e_ok}
use Rattle.osek_core.specs.Kernel.Rules.{Rules, rules_of}
use Rattle.osek_core.specs.Kernel.Scheduler.{Scheduler, caller}
use Rattle.osek_core.specs.Kernel.Clock.{ClockRules, Clock, clock_rules_of}
use Rattle.osek_core.specs.Kernel.State.{Kernel}
use Rattle.osek_core.specs.Kernel.Dispatch.{dispatch}
use Rattle.osek_core.specs.Kernel.TaskServices.{activate_task, terminate_task, chain_task, schedule}
use Rattle.osek_core.specs.Kernel.ResourceServices.{get_resource, release_resource}
use Rattle.osek_core.specs.Kernel.EventServices.{set_event, clear_event, get_event, wait_event}
use Rattle.osek_core.specs.Kernel.AlarmServices.{set_rel_alarm, set_abs_alarm, cancel_alarm, get_alarm}

-- the kernel after a service, the int that the service answers, and whether the caller's job has ended
pub record Served : Type 0 where
  pub kernel : Kernel
  pub answer : ℤ
  pub ended : Bool

-- a service of the scheduler; one that ends its caller does so where it is done
abbrev pub schedules : Kernel → Bool → Answered Scheduler → Served
schedules k ends a =
    record { kernel = record k { scheduler = a.state }; answer = pos a.status; ended = ends && nat_eq a.status e_ok }

-- a service of the clock
abbrev pub arms : Kernel → Answered Clock → Served
arms k a = record { kernel = record k { clock = a.state }; answer = pos a.status; ended = false }

-- a service that reads: the int of the number's 32 bits, or the status below 0
abbrev pub reads : Kernel → Result ℕ ℕ → Served
reads k (Ok value) = record { kernel = k; answer = cast_signed w32 value; ended = false }
reads k (Err status) = record { kernel = k; answer = neg_ℤ (pos status); ended = false }

-- the service before its dispatch
abbrev pub call_service : Rules → ClockRules → Kernel → ℕ → Call → Served
call_service rules clock k own (ActivateTask task) = schedules k false (activate_task rules k.scheduler task)
call_service rules clock k own TerminateTask = schedules k true (terminate_task rules k.scheduler own)
call_service rules clock k own (ChainTask task) = schedules k true (chain_task rules k.scheduler own task)
call_service rules clock k own Schedule = schedules k false (schedule k.scheduler own)
call_service rules clock k own (GetResource resource) = schedules k false (get_resource rules k.scheduler own resource)
call_service rules clock k own (ReleaseResource resource) = schedules k false (release_resource rules k.scheduler own resource)
call_service rules clock k own (SetEvent task mask) = schedules k false (set_event rules k.scheduler task mask)
call_service rules clock k own (ClearEvent mask) = schedules k false (clear_event rules k.scheduler own mask)
call_service rules clock k own (GetEvent task) = reads k (get_event rules k.scheduler task)
call_service rules clock k own (WaitEvent mask) = schedules k false (wait_event rules k.scheduler own mask)
call_service rules clock k own (SetRelAlarm alarm n cycle) = arms k (set_rel_alarm clock k.clock alarm n cycle)
call_service rules clock k own (SetAbsAlarm alarm n cycle) = arms k (set_abs_alarm clock k.clock alarm n cycle)
call_service rules clock k own (CancelAlarm alarm) = arms k (cancel_alarm k.clock alarm)
call_service rules clock k own (GetAlarm alarm) = reads k (get_alarm k.clock alarm)

abbrev pub redispatch : Rules → Kernel → Kernel
redispatch rules k = record k { scheduler = dispatch rules k.scheduler }

abbrev pub service : Tables → Kernel → Call → Served
service tables k call =
    let served = call_service (rules_of tables) (clock_rules_of tables) k (caller k.scheduler) call in
    record served { kernel = redispatch (rules_of tables) served.kernel }
