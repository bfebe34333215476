-- One step of an actor: one instruction, or what follows the return of an entry. It speaks of the actor's own frames
-- and of the shared part apart.
use Rattle.std.specs.Prelude.{ℕ, ℤ, Bool, true, false, List, [], ◌∷◌, Option, Some, None, if◌then◌else◌, nat_eq, slice_get}
use Rattle.std.specs.Option.{option_and_then}
use Rattle.osek_core.specs.declared.call.Call.{Call}
use Rattle.osek_core.specs.declared.call.Call.TheVariants.{TerminateTask}
use Rattle.osek_core.specs.declared.event.Who.{Who}
use Rattle.osek_core.specs.declared.event.Who.TheVariants.{Start, Task}
use Rattle.osek_core.specs.declared.event.Event.{Event}
use Rattle.osek_core.specs.declared.event.Event.TheVariants.{Service, Fail}
use Rattle.osek_core.specs.declared.event.Place.{Place}
use Rattle.osek_core.specs.declared.event.FailKind.{FailKind}
use Rattle.osek_core.specs.declared.event.FailKind.TheVariants.{HeldAtEnd}
use Rattle.osek_core.specs.Kernel.Service.{service}
use Rattle.osek_core.specs.Kernel.System.{start_system, shut_system}
use Rattle.osek_core.specs.Bytecode.World.{Instruction, Located, Code}
use Rattle.osek_core.specs.Bytecode.Application.{Application, Reached, code_of, entry_of, number_of}
use Rattle.osek_core.specs.Bytecode.Value.{Value, Int}
use Rattle.osek_core.specs.Bytecode.State.{Frame, Actor, Shared, start_with, job_at_entry}
use Rattle.osek_core.specs.Bytecode.Instruction.{Outcome, Next, Serve, Leave, Fails, Undefined, execute}

pub record Stepped : Type 0 where
  pub actor : Actor
  pub shared : Shared
  pub events : List Event

-- the instruction at an offset, and the offset of the one behind it
abbrev pub instruction_at : List Located → ℕ → Option Instruction
instruction_at [] pc = None
instruction_at (located ∷ rest) pc = if nat_eq located.pc pc then Some located.instruction else instruction_at rest pc

abbrev pub pc_behind : List Located → ℕ → ℕ
pc_behind [] pc = pc
pc_behind (located ∷ rest) pc = if nat_eq located.pc pc then first_pc rest else pc_behind rest pc
  where
    first_pc : List Located → ℕ
    first_pc [] = pc
    first_pc (next ∷ more) = next.pc

-- a task's actor before its next job
abbrev pub next_job : Application → Who → Actor
next_job app Start = start_with app []
next_job app (Task task) = job_at_entry app (option_and_then (entry_of app.world) (slice_get app.config.tasks task))

-- a service: the caller's job has ended, or goes on
abbrev pub call_kernel : Application → Who → Actor → Shared → Call → (ℤ → Actor) → Stepped
call_kernel app who actor s call after =
    let served = service app.config.tables s.system.kernel call in
    record {
      actor = (if served.ended then next_job app who else after served.answer);
      shared = record s { system = record s.system { kernel = served.kernel } };
      events = Service who call served.answer ∷ [];
    }

-- a failure shuts the system down and changes nothing else
abbrev pub fail : Who → Actor → Shared → FailKind → Option Place → Stepped
fail who actor s kind place =
    record { actor = actor; shared = record s { system = shut_system s.system }; events = Fail who kind place ∷ [] }

-- the return of an initialiser enters the next one, and that of the last one starts the kernel; behind a task's entry
-- the job has no frame
abbrev pub leave_last : Application → Who → Actor → Shared → Stepped
leave_last app Start actor s = enter actor.later
  where
    enter : List Reached → Stepped
    enter [] = record { actor = start_with app []; shared = record s { system = start_system app.config.tables s.system }; events = [] }
    enter (first ∷ later) = record { actor = start_with app (first ∷ later); shared = s; events = [] }
leave_last app (Task task) actor s = record { actor = record actor { frames = [] }; shared = s; events = [] }

-- a caller gets the answer
abbrev pub answered : Option Value → Frame → Frame
answered None f = f
answered (Some value) f = record f { operands = value ∷ f.operands }

abbrev pub leave : Application → Who → Actor → Shared → List Frame → Option Value → Stepped
leave app who actor s [] answer = leave_last app who actor s
leave app who actor s (f ∷ callers) answer =
    record { actor = record actor { frames = answered answer f ∷ callers }; shared = s; events = [] }

-- nothing happens
abbrev pub rest : Actor → Shared → Stepped
rest actor s = record { actor = actor; shared = s; events = [] }

-- what an instruction's outcome makes of the innermost frame f above its callers
abbrev pub settle : Application → Who → Actor → Shared → List Located → Frame → List Frame → Outcome → Stepped
settle app who actor s code f callers (Next locals operands) =
    rest (record actor { frames = record f { pc = pc_behind code f.pc; locals = locals; operands = operands } ∷ callers }) s
settle app who actor s code f callers (Serve call operands) =
    call_kernel app who actor s call
    (λ answer. record actor { frames = record f { pc = pc_behind code f.pc; operands = Int answer ∷ operands } ∷ callers })
settle app who actor s code f callers (Leave answer) = leave app who actor s callers answer
settle app who actor s code f callers (Fails kind) =
    fail who actor s kind (Some (record { method = number_of app f.method; pc = f.pc }))
settle app who actor s code f callers Undefined = rest actor s

-- the instruction at the frame's pc; code that has none there has no meaning, and nothing happens
abbrev pub run_frame : Application → Who → Actor → Shared → List Located → Frame → List Frame → Option Instruction → Stepped
run_frame app who actor s code f callers None = rest actor s
run_frame app who actor s code f callers (Some instruction) = settle app who actor s code f callers (execute app s f instruction)

abbrev pub located : Application → Frame → List Located
located app f = instructions (code_of app.world f.method)
  where
    instructions : Option Code → List Located
    instructions None = []
    instructions (Some code) = code.instructions

-- behind the return of a task's entry comes TerminateTask, and where that was refused HeldAtEnd
abbrev pub end_of_job : Application → Who → Actor → Shared → Bool → Stepped
end_of_job app who actor s false = call_kernel app who actor s TerminateTask (λ answer. record actor { refused = true })
end_of_job app who actor s true = fail who actor s HeldAtEnd None

abbrev pub step : Application → Who → Actor → Shared → Stepped
step app who actor s = of_frames actor.frames
  where
    of_frames : List Frame → Stepped
    of_frames [] = end_of_job app who actor s actor.refused
    of_frames (f ∷ callers) = run_frame app who actor s (located app f) f callers (instruction_at (located app f) f.pc)
