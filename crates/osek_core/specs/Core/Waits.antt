-- Which states wait.
use Rattle.std.specs.Prelude.{ℕ, Bool, false, not}
use Rattle.osek_core.specs.declared.control.TaskState.{TaskState}
use Rattle.osek_core.specs.declared.control.TaskState.TheVariants.{Suspended, Ready, Running, Waiting}
use Rattle.osek_core.specs.Kernel.EventServices.{are_apart}

abbrev pub IsWaiting : TaskState → Type 0
IsWaiting Suspended = ⊥
IsWaiting Ready = ⊥
IsWaiting Running = ⊥
IsWaiting (Waiting events) = Unit {0}

-- a task in this state waits for one of these events
abbrev pub waits_for : TaskState → ℕ → Bool
waits_for Suspended mask = false
waits_for Ready mask = false
waits_for Running mask = false
waits_for (Waiting events) mask = not (are_apart events mask)
