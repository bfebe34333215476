-- OSEK/VDX OS 2.2.3, section 13: the call that a service statement makes. Names become the places of the objects in the
-- tables, events a mask, and of an alarm's numbers the low 32 bits count.
use Rattle.std.specs.Prelude.{ℕ, ◌^◌, List, [], ◌∷◌, Option, Some, bytes_eq, position, bit_or}
use Rattle.std.specs.Option.{option_map, option_and_then}
use Rattle.osek_core.specs.declared.call.Call.{Call}
use Rattle.osek_core.specs.declared.call.Call.TheVariants as call
use Rattle.osek_core.specs.declared.tables.Tables.{Tables}
use Rattle.csubset.specs.declared.expression.Atom.{Atom}
use Rattle.csubset.specs.declared.statement.CService.{CService}
use Rattle.csubset.specs.declared.statement.CService.TheVariants.{ActivateTask, TerminateTask, ChainTask, Schedule, GetResource, ReleaseResource, SetEvent, ClearEvent, GetEvent, WaitEvent, SetRelAlarm, SetAbsAlarm, CancelAlarm, GetAlarm}
use Rattle.csubset.specs.Machine.Word.{low4}
use Rattle.csubset.specs.Machine.Expression.{atom_value}

abbrev pub task_place : Tables → List ℕ → Option ℕ
task_place tables name = position (λ row. bytes_eq row.name.text name) tables.tasks

abbrev pub resource_place : Tables → List ℕ → Option ℕ
resource_place tables name = position (λ row. bytes_eq row.text name) tables.resources

abbrev pub event_place : Tables → List ℕ → Option ℕ
event_place tables name = position (λ row. bytes_eq row.text name) tables.events

abbrev pub alarm_place : Tables → List ℕ → Option ℕ
alarm_place tables name = position (λ row. bytes_eq row.name.text name) tables.alarms

-- event n is bit n
abbrev pub mask_of : Tables → List (List ℕ) → Option ℕ
mask_of tables [] = Some 0
mask_of tables (name ∷ more) =
    option_and_then (λ event. option_map (bit_or (2 ^ event)) (mask_of tables more)) (event_place tables name)

-- two things that both must be there
abbrev pub both : {A B C : Type 0} → (A → B → C) → Option A → Option B → Option C
both f a b = option_and_then (λ x. option_map (f x) b) a

abbrev pub alarm_call : Tables → List ℕ → (ℕ → ℕ → ℕ → Call) → List ℕ → Atom → Atom → Option Call
alarm_call tables words make alarm first cycle =
    option_and_then (λ place. both (λ n c. make place (low4 n) (low4 c)) (atom_value words first) (atom_value words cycle))
    (alarm_place tables alarm)

abbrev pub call_of : Tables → List ℕ → CService → Option Call
call_of tables words (ActivateTask task) = option_map call.ActivateTask (task_place tables task)
call_of tables words TerminateTask = Some call.TerminateTask
call_of tables words (ChainTask task) = option_map call.ChainTask (task_place tables task)
call_of tables words Schedule = Some call.Schedule
call_of tables words (GetResource resource) = option_map call.GetResource (resource_place tables resource)
call_of tables words (ReleaseResource resource) = option_map call.ReleaseResource (resource_place tables resource)
call_of tables words (SetEvent task events) = both call.SetEvent (task_place tables task) (mask_of tables events)
call_of tables words (ClearEvent events) = option_map call.ClearEvent (mask_of tables events)
call_of tables words (GetEvent task) = option_map call.GetEvent (task_place tables task)
call_of tables words (WaitEvent events) = option_map call.WaitEvent (mask_of tables events)
call_of tables words (SetRelAlarm alarm first cycle) = alarm_call tables words call.SetRelAlarm alarm first cycle
call_of tables words (SetAbsAlarm alarm first cycle) = alarm_call tables words call.SetAbsAlarm alarm first cycle
call_of tables words (CancelAlarm alarm) = option_map call.CancelAlarm (alarm_place tables alarm)
call_of tables words (GetAlarm alarm) = option_map call.GetAlarm (alarm_place tables alarm)
