-- The text of a service with its arguments (OSEK/VDX OS 2.2.3, section 13). A mask of events is
-- their names, joined by bars.
use Rattle.std.specs.Prelude.{ℕ, List, ◌++◌, codes}
use Rattle.std.specs.List.{join_by}
use Rattle.csubset.specs.declared.statement.CService.{CService}
use Rattle.csubset.specs.declared.statement.CService.TheVariants.{ActivateTask, TerminateTask, ChainTask, Schedule, GetResource, ReleaseResource, SetEvent, ClearEvent, GetEvent, WaitEvent, SetRelAlarm, SetAbsAlarm, CancelAlarm, GetAlarm}
use Rattle.csubset.specs.Text.Names.{task_name, resource_name, event_name, alarm_name}
use Rattle.csubset.specs.Text.Expressions.{atom_text}

abbrev pub mask_text : List (List ℕ) → List ℕ
mask_text = join_by event_name (codes " | ")

abbrev pub service_text : CService → List ℕ
service_text (ActivateTask task) = codes "K_ActivateTask(" ++ task_name task ++ codes ")"
service_text TerminateTask = codes "K_TerminateTask()"
service_text (ChainTask task) = codes "K_ChainTask(" ++ task_name task ++ codes ")"
service_text Schedule = codes "K_Schedule()"
service_text (GetResource resource) = codes "K_GetResource(" ++ resource_name resource ++ codes ")"
service_text (ReleaseResource resource) =
    codes "K_ReleaseResource(" ++ resource_name resource ++ codes ")"
service_text (SetEvent task events) =
    codes "K_SetEvent(" ++ task_name task ++ codes ", " ++ mask_text events ++ codes ")"
service_text (ClearEvent events) = codes "K_ClearEvent(" ++ mask_text events ++ codes ")"
service_text (GetEvent task) = codes "K_GetEvent(" ++ task_name task ++ codes ")"
service_text (WaitEvent events) = codes "K_WaitEvent(" ++ mask_text events ++ codes ")"
service_text (SetRelAlarm alarm first cycle) =
    codes "K_SetRelAlarm(" ++ alarm_name alarm
    ++ codes ", " ++ atom_text first ++ codes ", " ++ atom_text cycle ++ codes ")"
service_text (SetAbsAlarm alarm first cycle) =
    codes "K_SetAbsAlarm(" ++ alarm_name alarm
    ++ codes ", " ++ atom_text first ++ codes ", " ++ atom_text cycle ++ codes ")"
service_text (CancelAlarm alarm) = codes "K_CancelAlarm(" ++ alarm_name alarm ++ codes ")"
service_text (GetAlarm alarm) = codes "K_GetAlarm(" ++ alarm_name alarm ++ codes ")"
