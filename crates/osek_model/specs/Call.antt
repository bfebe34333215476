-- When the objects that a call names are there.
use Rattle.std.specs.Prelude.{ℕ, ◌<◌, length}
use Rattle.osek_core.specs.declared.call.Call.{Call}
use Rattle.osek_core.specs.declared.call.Call.TheVariants.{ActivateTask, TerminateTask, ChainTask, Schedule, GetResource, ReleaseResource, SetEvent, ClearEvent, GetEvent, WaitEvent, SetRelAlarm, SetAbsAlarm, CancelAlarm, GetAlarm}
use Rattle.osek_model.specs.Plan.{Plan}

abbrev pub IsTask : Plan → ℕ → Type 0
IsTask plan task = task < length plan.rules.tasks

abbrev pub IsResource : Plan → ℕ → Type 0
IsResource plan resource = resource < length plan.rules.ceilings

abbrev pub IsAlarm : Plan → ℕ → Type 0
IsAlarm plan alarm = alarm < length plan.clock.alarms

abbrev pub IsCallOf : Plan → Call → Type 0
IsCallOf plan (ActivateTask task) = IsTask plan task
IsCallOf plan TerminateTask = Unit {0}
IsCallOf plan (ChainTask task) = IsTask plan task
IsCallOf plan Schedule = Unit {0}
IsCallOf plan (GetResource resource) = IsResource plan resource
IsCallOf plan (ReleaseResource resource) = IsResource plan resource
IsCallOf plan (SetEvent task mask) = IsTask plan task
IsCallOf plan (ClearEvent mask) = Unit {0}
IsCallOf plan (GetEvent task) = IsTask plan task
IsCallOf plan (WaitEvent mask) = Unit {0}
IsCallOf plan (SetRelAlarm alarm n cycle) = IsAlarm plan alarm
IsCallOf plan (SetAbsAlarm alarm n cycle) = IsAlarm plan alarm
IsCallOf plan (CancelAlarm alarm) = IsAlarm plan alarm
IsCallOf plan (GetAlarm alarm) = IsAlarm plan alarm
