-- One step of an actor: one statement, or what KTASK does behind the return of its entry. It speaks of the actor's own
-- frames and of the shared part apart. A step without a meaning shows Stuck and shuts the system down.
use Rattle.std.specs.Prelude.{ℕ, ◌+◌, ℤ, Bool, true, false, List, [], ◌∷◌, Option, Some, None, if◌then◌else◌, slice_get, slice_set}
use Rattle.std.specs.Option.{option_map}
use Rattle.osek_core.specs.declared.call.Call.{Call}
use Rattle.osek_core.specs.declared.call.Call.TheVariants.{TerminateTask}
use Rattle.osek_core.specs.declared.event.Who.{Who}
use Rattle.osek_core.specs.declared.event.Who.TheVariants.{Start, Task}
use Rattle.osek_core.specs.declared.event.Event.{Event}
use Rattle.osek_core.specs.declared.event.Event.TheVariants.{Service, DevRead, DevWrite, Fail, Stuck}
use Rattle.osek_core.specs.declared.event.FailKind.TheVariants.{HeldAtEnd}
use Rattle.osek_core.specs.Kernel.State.{Kernel, suspend, resume}
use Rattle.osek_core.specs.Kernel.Service.{service}
use Rattle.osek_core.specs.Kernel.System.{start_system, shut_system}
use Rattle.csubset.specs.declared.statement.Form.{Form}
use Rattle.csubset.specs.declared.statement.Form.TheVariants as form
use Rattle.csubset.specs.declared.program.CFunction.{CFunction}
use Rattle.csubset.specs.Machine.Word.{word_of_int}
use Rattle.csubset.specs.Machine.Application.{CApplication, function_at, form_in, form_at}
use Rattle.csubset.specs.Machine.State.{Frame, Actor, Shared, call_frame, start_with, job_at_entry}
use Rattle.csubset.specs.Machine.Statement.{Outcome, Next, Jump, Enter, Leave, Store, Read, Write, Serve, Fails, Suspend, Resume, Undefined, set_word, execute}

pub record Stepped : Type 0 where
  pub actor : Actor
  pub shared : Shared
  pub events : List Event

-- an actor goes on with these frames and this shared part
abbrev pub goes_on : Actor → List Frame → Shared → List Event → Stepped
goes_on actor frames s events = record { actor = record actor { frames = frames }; shared = s; events = events }

-- the system is shut down with this event, and nothing else changes
abbrev pub shuts : Actor → Shared → Event → Stepped
shuts actor s event = record { actor = actor; shared = record s { system = shut_system s.system }; events = event ∷ [] }

abbrev pub stuck : Who → Actor → Shared → Stepped
stuck who actor s = shuts actor s (Stuck who)

abbrev pub or_stuck : Who → Actor → Shared → Option Stepped → Stepped
or_stuck who actor s None = stuck who actor s
or_stuck who actor s (Some stepped) = stepped

abbrev pub set_kernel : Shared → Kernel → Shared
set_kernel s k = record s { system = record s.system { kernel = k } }

-- behind the statement, with these words
abbrev pub behind : Frame → List ℕ → Frame
behind f words = record f { place = f.place + 1; words = words }

-- a task's actor before its next job
abbrev pub next_job : CApplication → ℕ → Option Actor
next_job app task = option_map (λ line. job_at_entry app.program line.function) (slice_get app.program.task_lines task)

-- a service for a task: its job has ended, or it goes on
abbrev pub call_kernel : CApplication → ℕ → Actor → Shared → Call → (ℤ → Option Actor) → Stepped
call_kernel app task actor s call after =
    let served = service app.tables s.system.kernel call in
    or_stuck (Task task) actor s
    (option_map (λ next. record { actor = next; shared = set_kernel s served.kernel; events = Service (Task task) call served.answer ∷ [] })
    (if served.ended then next_job app task else after served.answer))

-- the word takes the 32 bits of the answer; during the start a service has no meaning
abbrev pub serve : CApplication → Who → Actor → Shared → Frame → List Frame → Call → ℕ → Stepped
serve app Start actor s f callers call to = stuck Start actor s
serve app (Task task) actor s f callers call to =
    call_kernel app task actor s call
    (λ answer. option_map (λ words. record actor { frames = behind f words ∷ callers }) (set_word f.words to (word_of_int answer)))

-- the return of an initialiser enters the next one, and that of the last one starts the kernel; behind a task's entry
-- the job has no frame
abbrev pub leave_last : CApplication → Who → Actor → Shared → Stepped
leave_last app Start actor s = enter actor.later
  where
    enter : List ℕ → Stepped
    enter [] = record { actor = start_with app.program []; shared = record s { system = start_system app.tables s.system }; events = [] }
    enter (first ∷ later) = record { actor = start_with app.program (first ∷ later); shared = s; events = [] }
leave_last app (Task task) actor s = goes_on actor [] s []

-- a caller stands at its call, whose word takes the answer
abbrev pub answered : Frame → ℕ → Option Form → Option Frame
answered f answer (Some (form.Call to function arguments)) = option_map (behind f) (set_word f.words to answer)
answered f answer form = None

abbrev pub leave : CApplication → Who → Actor → Shared → List Frame → ℕ → Stepped
leave app who actor s [] answer = leave_last app who actor s
leave app who actor s (f ∷ callers) answer =
    or_stuck who actor s
    (option_map (λ g. goes_on actor (g ∷ callers) s []) (answered f answer (form_at app.program f.function f.place)))

-- what a statement's outcome makes of the innermost frame f above its callers
abbrev pub settle : CApplication → Who → Actor → Shared → Frame → List Frame → Outcome → Stepped
settle app who actor s f callers (Next words) = goes_on actor (behind f words ∷ callers) s []
settle app who actor s f callers (Jump place) = goes_on actor (record f { place = place } ∷ callers) s []
settle app who actor s f callers (Enter function arguments) =
    or_stuck who actor s (option_map (λ g. goes_on actor (g ∷ f ∷ callers) s []) (call_frame app.program function arguments))
settle app who actor s f callers (Leave answer) = leave app who actor s callers answer
settle app who actor s f callers (Store region bytes) =
    goes_on actor (behind f f.words ∷ callers) (record s { regions = slice_set s.regions region bytes }) []
settle app who actor s f callers (Read at width value words) =
    goes_on actor (behind f words ∷ callers) s (DevRead who at width value ∷ [])
settle app who actor s f callers (Write at width value devices) =
    goes_on actor (behind f f.words ∷ callers) (record s { devices = devices }) (DevWrite who at width value ∷ [])
settle app who actor s f callers (Serve call to) = serve app who actor s f callers call to
settle app who actor s f callers (Fails kind at) = shuts actor s (Fail who kind at)
settle app who actor s f callers Suspend = goes_on actor (behind f f.words ∷ callers) (set_kernel s (suspend s.system.kernel)) []
settle app who actor s f callers Resume = goes_on actor (behind f f.words ∷ callers) (set_kernel s (resume s.system.kernel)) []
settle app who actor s f callers Undefined = stuck who actor s

-- the statement at the frame's place
abbrev pub run_frame : CApplication → Who → Actor → Shared → Frame → List Frame → Option CFunction → Stepped
run_frame app who actor s f callers None = stuck who actor s
run_frame app who actor s f callers (Some function) = of_form (form_in function f.place)
  where
    of_form : Option Form → Stepped
    of_form None = stuck who actor s
    of_form (Some statement) = settle app who actor s f callers (execute app function s f.words statement)

-- KTASK behind its entry: TerminateTask, and where that was refused HeldAtEnd
abbrev pub end_of_job : CApplication → Who → Actor → Shared → Bool → Stepped
end_of_job app Start actor s refused = stuck Start actor s
end_of_job app (Task task) actor s false = call_kernel app task actor s TerminateTask (λ answer. Some (record actor { refused = true }))
end_of_job app (Task task) actor s true = shuts actor s (Fail (Task task) HeldAtEnd None)

abbrev pub step : CApplication → Who → Actor → Shared → Stepped
step app who actor s = of_frames actor.frames
  where
    of_frames : List Frame → Stepped
    of_frames [] = end_of_job app who actor s actor.refused
    of_frames (f ∷ callers) = run_frame app who actor s f callers (function_at app.program f.function)
