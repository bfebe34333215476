-- OSEK/VDX OS 2.2.3, section 13.2.3: the services of task management, each before the dispatch that follows it.
use Rattle.std.specs.Prelude.{ℕ, ◌+◌, ◌-◌, Bool, not, ◌&&◌, length, nat_eq, nat_lt, nat_le, if◌then◌else◌}
use Rattle.osek_core.specs.declared.control.TaskState.{TaskState}
use Rattle.osek_core.specs.declared.control.TaskState.TheVariants.{Suspended, Ready, Running, Waiting}
use Rattle.osek_core.specs.declared.control.TaskControl.{TaskControl}
use Rattle.osek_core.specs.Kernel.Status.{Answered, done, refused, e_os_limit, e_os_resource}
use Rattle.osek_core.specs.Kernel.Rules.{Rules, rule_of}
use Rattle.osek_core.specs.Kernel.Scheduler.{Scheduler, task_at, held_by, current_priority, set_task, set_state, add_last, remove_first}

-- as many activations of the task are outstanding as it may have
abbrev pub is_at_limit : Rules → Scheduler → ℕ → Bool
is_at_limit rules s task = nat_le (rule_of rules task).activations (task_at s task).activations

abbrev pub holds_resource : Scheduler → ℕ → Bool
holds_resource s task = nat_lt 0 (length (held_by s task))

-- one activation more; a suspended task becomes ready, and its events are cleared
abbrev pub activated : TaskControl → TaskControl
activated control = from control.state
  where
    more : TaskControl
    more = record control { activations = control.activations + 1 }

    from : TaskState → TaskControl
    from Suspended = record more { state = Ready; events = 0 }
    from Ready = more
    from Running = more
    from (Waiting events) = more

-- a new job of the task is the last of its priority
abbrev pub activate : Rules → Scheduler → ℕ → Scheduler
activate rules s task =
    add_last (set_task s task (activated (task_at s task))) (rule_of rules task).priority task

-- one activation less; the task is suspended where none is left
abbrev pub terminated : TaskControl → TaskControl
terminated control =
    record control {
      state = (if nat_lt 1 control.activations then Ready else Suspended);
      activations = control.activations - 1;
    }

-- the task's first job ends
abbrev pub end_job : Rules → Scheduler → ℕ → Scheduler
end_job rules s task =
    set_task (remove_first s (current_priority rules s task)) task (terminated (task_at s task))

abbrev pub activate_task : Rules → Scheduler → ℕ → Answered Scheduler
activate_task rules s task =
    if is_at_limit rules s task then refused s e_os_limit
    else done (activate rules s task)

abbrev pub terminate_task : Rules → Scheduler → ℕ → Answered Scheduler
terminate_task rules s caller =
    if holds_resource s caller then refused s e_os_resource
    else done (end_job rules s caller)

abbrev pub chain_task : Rules → Scheduler → ℕ → ℕ → Answered Scheduler
chain_task rules s caller task =
    if holds_resource s caller then refused s e_os_resource
    else (if not (nat_eq task caller) && is_at_limit rules s task then refused s e_os_limit
    else done (activate rules (end_job rules s caller) task))

-- the caller gives way: it is ready, as the first of its list, until the dispatch
abbrev pub schedule : Scheduler → ℕ → Answered Scheduler
schedule s caller =
    if holds_resource s caller then refused s e_os_resource
    else done (set_state s caller Ready)
