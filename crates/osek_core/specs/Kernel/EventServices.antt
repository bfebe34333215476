-- OSEK/VDX OS 2.2.3, section 13.5.3: the services of event control. A set of events is its mask.
use Rattle.std.specs.Prelude.{ℕ, Bool, bit_and, bit_or, bit_xor, nat_eq, if◌then◌else◌, Result, Ok, Err}
use Rattle.osek_core.specs.declared.control.TaskState.{TaskState}
use Rattle.osek_core.specs.declared.control.TaskState.TheVariants.{Suspended, Ready, Running, Waiting}
use Rattle.osek_core.specs.Kernel.Status.{Answered, done, refused, e_os_access, e_os_resource, e_os_state}
use Rattle.osek_core.specs.Kernel.Rules.{Rules, rule_of}
use Rattle.osek_core.specs.Kernel.Scheduler.{Scheduler, task_at, set_task, set_state, current_priority, add_last, remove_first}
use Rattle.osek_core.specs.Kernel.TaskServices.{holds_resource}

-- no event of the one mask is in the other
abbrev pub are_apart : ℕ → ℕ → Bool
are_apart a b = nat_eq (bit_and a b) 0

abbrev pub set_events : Scheduler → ℕ → ℕ → Scheduler
set_events s task events = set_task s task (record (task_at s task) { events = events })

-- a job that leaves waiting is the last of its priority
abbrev pub wake : Rules → Scheduler → ℕ → Scheduler
wake rules s task = add_last (set_state s task Ready) (rule_of rules task).priority task

abbrev pub set_event : Rules → Scheduler → ℕ → ℕ → Answered Scheduler
set_event rules s task mask =
    if (rule_of rules task).extended then from (task_at s task).state
    else refused s e_os_access
  where
    after : Scheduler
    after = set_events s task (bit_or (task_at s task).events mask)

    from : TaskState → Answered Scheduler
    from Suspended = refused s e_os_state
    from Ready = done after
    from Running = done after
    from (Waiting events) = done (if are_apart events mask then after else wake rules after task)

abbrev pub clear_event : Rules → Scheduler → ℕ → ℕ → Answered Scheduler
clear_event rules s caller mask =
    let events = (task_at s caller).events in
    if (rule_of rules caller).extended then done (set_events s caller (bit_xor events (bit_and events mask)))
    else refused s e_os_access

-- the mask of the events that are set, or why there is none
abbrev pub get_event : Rules → Scheduler → ℕ → Result ℕ ℕ
get_event rules s task =
    if (rule_of rules task).extended then from (task_at s task).state
    else Err e_os_access
  where
    from : TaskState → Result ℕ ℕ
    from Suspended = Err e_os_state
    from Ready = Ok (task_at s task).events
    from Running = Ok (task_at s task).events
    from (Waiting events) = Ok (task_at s task).events

-- the caller goes on where one of the events is set, and else leaves its list until one is
abbrev pub wait_event : Rules → Scheduler → ℕ → ℕ → Answered Scheduler
wait_event rules s caller mask =
    if (rule_of rules caller).extended then
    (if holds_resource s caller then refused s e_os_resource
    else done (if are_apart (task_at s caller).events mask then wait else s))
    else refused s e_os_access
  where
    wait : Scheduler
    wait = set_state (remove_first s (current_priority rules s caller)) caller (Waiting mask)
