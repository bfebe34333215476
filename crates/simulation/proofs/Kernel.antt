-- What services, ticks and the start keep of a kernel: how many tasks it has, and whether interrupts are suspended.
use Rattle.std.proofs.Common.{◌≡◌, ◌<◌, ℕ, Bool, true, false, List, [], ◌∷◌, length, Option, Some, None, refl, ◌∙◌}
use Rattle.std.specs.Prelude.{if◌then◌else◌, fold, Result, Ok, Err, slice_get, bit_or, ◌^◌, ◌-◌, ◌&&◌, not, nat_eq, take}
use Rattle.std.specs.List.{ends_with}
use Rattle.std.proofs.lemmas.List.{length-set, length-replicate, length-map}
use Rattle.std.proofs.lemmas.List.Quantifiers.{position-Some}
use Rattle.osek_core.specs.declared.call.Call.{Call}
use Rattle.osek_core.specs.declared.call.Call.TheVariants.{ActivateTask, TerminateTask, ChainTask, Schedule, GetResource, ReleaseResource, SetEvent, ClearEvent, GetEvent, WaitEvent, SetRelAlarm, SetAbsAlarm, CancelAlarm, GetAlarm}
use Rattle.osek_core.specs.declared.control.TaskState.{TaskState}
use Rattle.osek_core.specs.declared.control.TaskState.TheVariants.{Suspended, Ready, Running, Waiting}
use Rattle.osek_core.specs.declared.tables.Tables.{Tables}
use Rattle.osek_core.specs.declared.tables.AlarmRow.{AlarmRow}
use Rattle.osek_core.specs.declared.tables.Action.{Action}
use Rattle.osek_core.specs.declared.tables.Action.TheVariants.{Activate, Set}
use Rattle.osek_core.specs.Kernel.Status.{Answered, done, refused, e_os_access, e_os_limit, e_os_nofunc, e_os_resource}
use Rattle.osek_core.specs.Kernel.Rules.{Rules, rules_of, rule_of}
use Rattle.osek_core.specs.Kernel.Clock.{ClockRules, clock_rules_of, due, places}
use Rattle.osek_core.specs.Kernel.Scheduler.{Scheduler, task_at, held_by, caller, running, current_priority, set_state, remove_first, idle, first_job, is_running}
use Rattle.osek_core.specs.Kernel.Dispatch.{run_job, run_first, dispatch}
use Rattle.osek_core.specs.Kernel.TaskServices.{is_at_limit, holds_resource, activate, activate_task, end_job, chain_task}
use Rattle.osek_core.specs.Kernel.ResourceServices.{is_ceiling_below, hold, release_resource}
use Rattle.osek_core.specs.Kernel.EventServices.{are_apart, set_events, wake, set_event, get_event, wait_event}
use Rattle.osek_core.specs.Kernel.AlarmServices.{get_alarm}
use Rattle.osek_core.specs.Kernel.State.{Kernel}
use Rattle.osek_core.specs.Kernel.Service.{reads, call_service, service}
use Rattle.osek_core.specs.Kernel.Tick.{act, act_row, act_all, tick}
use Rattle.osek_core.specs.Kernel.Start.{starts_itself, autostarted, new_kernel, start_kernel}
use Rattle.simulation.specs.Laws.{Keeps}

abbrev count : Scheduler → ℕ
count s = length s.tasks

-- an answer by cases
either : (n : ℕ) (b : Bool) (x y : Answered Scheduler) → count x.state ≡ n → count y.state ≡ n → count (if b then x else y).state ≡ n
either n true x y p q = p
either n false x y p q = q

one_of : (n : ℕ) (b : Bool) (x y : Scheduler) → count x ≡ n → count y ≡ n → count (if b then x else y) ≡ n
one_of n true x y p q = p
one_of n false x y p q = q

run_job_count : (s : Scheduler) (o : Option ℕ) → count (run_job s o) ≡ count s
run_job_count s None = refl
run_job_count s (Some task) = length-set s.tasks task _

dispatch_by : (rules : Rules) (s : Scheduler) (o : Option ℕ) → running s ≡ o → count (dispatch rules s) ≡ count s
dispatch_by rules s None e = rw e (run_job_count s (first_job s.ready))
dispatch_by rules s (Some task) e =
    let given : Scheduler = set_state s task Ready in
    rw e (one_of (count s) (rule_of rules task).preemptable (run_first given) s (run_job_count given (first_job given.ready) ∙ length-set s.tasks task _) refl)

dispatch_count : (rules : Rules) (s : Scheduler) → count (dispatch rules s) ≡ count s
dispatch_count rules s = dispatch_by rules s (running s) refl

activate_count : (rules : Rules) (s : Scheduler) (task : ℕ) → count (activate rules s task) ≡ count s
activate_count rules s task = length-set s.tasks task _

activate_task_count : (rules : Rules) (s : Scheduler) (task : ℕ) → count (activate_task rules s task).state ≡ count s
activate_task_count rules s task = either (count s) _ _ _ refl (activate_count rules s task)

hold_count : (rules : Rules) (s : Scheduler) (task : ℕ) (resources : List ℕ) → count (hold rules s task resources) ≡ count s
hold_count rules s task resources = one_of (count s) _ _ _ refl refl

set_event_by : (rules : Rules) (s : Scheduler) (task mask : ℕ) (state : TaskState) → (task_at s task).state ≡ state → count (set_event rules s task mask).state ≡ count s
set_event_by rules s task mask Suspended e = rw e (either (count s) _ _ _ refl refl)
set_event_by rules s task mask Ready e = rw e (either (count s) _ _ _ (length-set s.tasks task _) refl)
set_event_by rules s task mask Running e = rw e (either (count s) _ _ _ (length-set s.tasks task _) refl)
set_event_by rules s task mask (Waiting events) e =
    let after = set_events s task (bit_or (task_at s task).events mask) in
    let after_count : count after ≡ count s = length-set s.tasks task _ in
    let woken = wake rules after task in
    rw e (either (count s) (rule_of rules task).extended (done (if are_apart events mask then after else woken)) (refused s e_os_access)
    (one_of (count s) (are_apart events mask) after woken after_count (length-set after.tasks task _ ∙ after_count)) refl)

set_event_count : (rules : Rules) (s : Scheduler) (task mask : ℕ) → count (set_event rules s task mask).state ≡ count s
set_event_count rules s task mask = set_event_by rules s task mask (task_at s task).state refl

end_job_count : (rules : Rules) (s : Scheduler) (task : ℕ) → count (end_job rules s task) ≡ count s
end_job_count rules s task = length-set s.tasks task _

release_count : (rules : Rules) (s : Scheduler) (caller resource : ℕ) → count (release_resource rules s caller resource).state ≡ count s
release_count rules s caller resource =
    let low = is_ceiling_below rules resource caller in
    let wrong = not (ends_with nat_eq (held_by s caller) (resource ∷ [])) in
    let less = done (hold rules s caller (take (length (held_by s caller) - 1) (held_by s caller))) in
    either (count s) low (refused s e_os_access) (if wrong then refused s e_os_nofunc else less) refl
    (either (count s) wrong (refused s e_os_nofunc) less refl (hold_count rules s caller _))

wait_count : (rules : Rules) (s : Scheduler) (caller mask : ℕ) → count (wait_event rules s caller mask).state ≡ count s
wait_count rules s caller mask =
    let waits = set_state (remove_first s (current_priority rules s caller)) caller (Waiting mask) in
    let next = if are_apart (task_at s caller).events mask then waits else s in
    let held = holds_resource s caller in
    either (count s) (rule_of rules caller).extended (if held then refused s e_os_resource else done next) (refused s e_os_access)
    (either (count s) held (refused s e_os_resource) (done next) refl
    (one_of (count s) (are_apart (task_at s caller).events mask) waits s (length-set s.tasks caller _) refl)) refl

chain_count : (rules : Rules) (s : Scheduler) (caller task : ℕ) → count (chain_task rules s caller task).state ≡ count s
chain_count rules s caller task =
    let ended = end_job rules s caller in
    let is_full = not (nat_eq task caller) && is_at_limit rules s task in
    let both = done (activate rules ended task) in
    either (count s) (holds_resource s caller) (refused s e_os_resource) (if is_full then refused s e_os_limit else both) refl
    (either (count s) is_full (refused s e_os_limit) both refl (activate_count rules ended task ∙ end_job_count rules s caller))

reads_keep : (k : Kernel) (r : Result ℕ ℕ) → Keeps k (reads k r).kernel
reads_keep k (Ok value) = record { suspended = refl; tasks = refl }
reads_keep k (Err status) = record { suspended = refl; tasks = refl }

call_keeps : (rules : Rules) (clock : ClockRules) (k : Kernel) (own : ℕ) (call : Call) → Keeps k (call_service rules clock k own call).kernel
call_keeps rules clock k own (ActivateTask task) = record { suspended = refl; tasks = activate_task_count rules k.scheduler task }
call_keeps rules clock k own TerminateTask =
    record { suspended = refl; tasks = either (count k.scheduler) _ _ _ refl (end_job_count rules k.scheduler own) }
call_keeps rules clock k own (ChainTask task) = record { suspended = refl; tasks = chain_count rules k.scheduler own task }
call_keeps rules clock k own Schedule =
    record { suspended = refl; tasks = either (count k.scheduler) _ _ _ refl (length-set k.scheduler.tasks own _) }
call_keeps rules clock k own (GetResource resource) =
    record { suspended = refl; tasks = either (count k.scheduler) _ _ _ refl (hold_count rules k.scheduler own _) }
call_keeps rules clock k own (ReleaseResource resource) =
    record { suspended = refl; tasks = release_count rules k.scheduler own resource }
call_keeps rules clock k own (SetEvent task mask) = record { suspended = refl; tasks = set_event_count rules k.scheduler task mask }
call_keeps rules clock k own (ClearEvent mask) =
    record { suspended = refl; tasks = either (count k.scheduler) _ _ _ (length-set k.scheduler.tasks own _) refl }
call_keeps rules clock k own (GetEvent task) = reads_keep k (get_event rules k.scheduler task)
call_keeps rules clock k own (WaitEvent mask) =
    record { suspended = refl; tasks = wait_count rules k.scheduler own mask }
call_keeps rules clock k own (SetRelAlarm alarm n cycle) = record { suspended = refl; tasks = refl }
call_keeps rules clock k own (SetAbsAlarm alarm n cycle) = record { suspended = refl; tasks = refl }
call_keeps rules clock k own (CancelAlarm alarm) = record { suspended = refl; tasks = refl }
call_keeps rules clock k own (GetAlarm alarm) = reads_keep k (get_alarm k.clock alarm)

pub service_keeps : (tables : Tables) (k : Kernel) (call : Call) → Keeps k (service tables k call).kernel
service_keeps tables k call =
    let served = call_service (rules_of tables) (clock_rules_of tables) k (caller k.scheduler) call in
    let called = call_keeps (rules_of tables) (clock_rules_of tables) k (caller k.scheduler) call in
    record { suspended = called.suspended; tasks = dispatch_count (rules_of tables) served.kernel.scheduler ∙ called.tasks }

act_row_count : (rules : Rules) (s : Scheduler) (row : Option AlarmRow) → count (act_row rules s row).state ≡ count s
act_row_count rules s None = refl
act_row_count rules s (Some row) = act_count row.action
  where
    act_count : (action : Action) → count (act rules s action).state ≡ count s
    act_count (Activate task) = activate_task_count rules s task
    act_count (Set task event) = set_event_count rules s task (2 ^ event)

act_all_count : (tables : Tables) (s : Scheduler) (alarms : List ℕ) → count (act_all tables s alarms).scheduler ≡ count s
act_all_count tables s [] = refl
act_all_count tables s (alarm ∷ later) =
    let row = slice_get tables.alarms alarm in
    act_all_count tables (act_row (rules_of tables) s row).state later ∙ act_row_count (rules_of tables) s row

pub tick_keeps : (tables : Tables) (k : Kernel) (counter : ℕ) → Keeps k (tick tables k counter).kernel
tick_keeps tables k counter =
    let alarms = due (clock_rules_of tables) k.clock counter in
    let acted = act_all tables k.scheduler alarms in
    record { suspended = refl; tasks = dispatch_count (rules_of tables) acted.scheduler ∙ act_all_count tables k.scheduler alarms }

autostarted_count : (tables : Tables) (s : Scheduler) (places : List ℕ) → count (fold (λ t task. if starts_itself (slice_get tables.tasks task) then activate (rules_of tables) t task else t) s places) ≡ count s
autostarted_count tables s [] = refl
autostarted_count tables s (task ∷ more) =
    let next = if starts_itself (slice_get tables.tasks task) then activate (rules_of tables) s task else s in
    autostarted_count tables next more ∙ one_of (count s) _ _ _ (activate_count (rules_of tables) s task) refl

pub start_keeps : (tables : Tables) (k : Kernel) → Keeps k (start_kernel tables k)
start_keeps tables k =
    record {
      suspended = refl;
      tasks = dispatch_count (rules_of tables) (autostarted tables k.scheduler) ∙ autostarted_count tables k.scheduler (places tables.tasks);
    }

-- a kernel before its start has its tasks
pub new_tasks : (tables : Tables) → length (new_kernel tables).scheduler.tasks ≡ length tables.tasks
new_tasks tables = length-replicate _ _ ∙ length-map tables.tasks _

-- the running task is one of them
pub running_within : (s : Scheduler) (task : ℕ) → running s ≡ Some task → task < length s.tasks
running_within s task e = (position-Some is_running s.tasks task idle e).0
