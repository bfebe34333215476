-- The bytecode's run shows no Stuck: each of its steps has a meaning, or nothing happens.
use Rattle.std.proofs.Common.{◌≡◌, ◌≢◌, ℕ, Bool, true, false, List, [], ◌∷◌, Option, Some, None, refl, subst}
use Rattle.std.specs.Prelude.{All, map, ◌&&◌, not}
use Rattle.std.proofs.lemmas.List.Elements.{All-nil, All-cons, All-append, All-map}
use Rattle.osek_core.specs.declared.call.Call.TheVariants.{TerminateTask}
use Rattle.osek_core.specs.declared.event.Who.{Who}
use Rattle.osek_core.specs.declared.event.Who.TheVariants.{Start, Task}
use Rattle.osek_core.specs.declared.event.Event.{Event}
use Rattle.osek_core.specs.declared.event.Event.TheVariants.{Service, DevRead, DevWrite, Fail, Lost, Stuck}
use Rattle.osek_core.specs.declared.event.FailKind.TheVariants.{HeldAtEnd}
use Rattle.osek_core.specs.declared.moves.Move.{Move}
use Rattle.osek_core.specs.declared.moves.Move.TheVariants.{Run, Tick, Poke}
use Rattle.osek_core.specs.declared.tables.Tables.{Tables}
use Rattle.osek_core.specs.Kernel.System.{System, acting, tick_system}
use Rattle.osek_core.specs.Kernel.Tick.{tick}
use Rattle.osek_core.specs.Bytecode.World.{Instruction, Located}
use Rattle.osek_core.specs.Bytecode.Application.{Application, Reached}
use Rattle.osek_core.specs.Bytecode.Value.{Value}
use Rattle.osek_core.specs.Bytecode.State.{Frame, Actor, Shared, State, actor_of}
use Rattle.osek_core.specs.Bytecode.Instruction.{Outcome, Next, Serve, Leave, Fails, Undefined, execute}
use Rattle.osek_core.specs.Bytecode.Step.{instruction_at, leave_last, leave, settle, run_frame, located, end_of_job, step}
use Rattle.osek_core.specs.Bytecode.Trace.{move, run, trace_from}

abbrev pub NotStuck : Event → Type 0
NotStuck (Service who call answer) = Unit {0}
NotStuck (DevRead who at width value) = Unit {0}
NotStuck (DevWrite who at width value) = Unit {0}
NotStuck (Fail who kind place) = Unit {0}
NotStuck (Lost alarm) = Unit {0}
NotStuck (Stuck who) = ⊥

abbrev pub NoneStuck : List Event → Type 0
NoneStuck events = All NotStuck events

nothing : NoneStuck []
nothing = All-nil NotStuck

only : (e : Event) → NotStuck e → NoneStuck (e ∷ [])
only e p = All-cons NotStuck e [] p nothing

leave_last_shows : (app : Application) (who : Who) (frames : List Frame) (refused : Bool) (later : List Reached) (s : Shared) → NoneStuck (leave_last app who (record { frames = frames; refused = refused; later = later }) s).events
leave_last_shows app Start frames refused [] s = nothing
leave_last_shows app Start frames refused (first ∷ later) s = nothing
leave_last_shows app (Task task) frames refused later s = nothing

leave_shows : (app : Application) (who : Who) (actor : Actor) (s : Shared) (callers : List Frame) (answer : Option Value) → NoneStuck (leave app who actor s callers answer).events
leave_shows app who actor s [] answer = leave_last_shows app who actor.frames actor.refused actor.later s
leave_shows app who actor s (f ∷ callers) answer = nothing

settle_shows : (app : Application) (who : Who) (actor : Actor) (s : Shared) (code : List Located) (f : Frame) (callers : List Frame) (outcome : Outcome) → NoneStuck (settle app who actor s code f callers outcome).events
settle_shows app who actor s code f callers (Next locals operands) = nothing
settle_shows app who actor s code f callers (Serve call operands) = only (Service who call _) tt
settle_shows app who actor s code f callers (Leave answer) = leave_shows app who actor s callers answer
settle_shows app who actor s code f callers (Fails kind) = only (Fail who kind _) tt
settle_shows app who actor s code f callers Undefined = nothing

run_frame_shows : (app : Application) (who : Who) (actor : Actor) (s : Shared) (code : List Located) (f : Frame) (callers : List Frame) (o : Option Instruction) → NoneStuck (run_frame app who actor s code f callers o).events
run_frame_shows app who actor s code f callers None = nothing
run_frame_shows app who actor s code f callers (Some instruction) = settle_shows app who actor s code f callers (execute app s f instruction)

end_shows : (app : Application) (who : Who) (actor : Actor) (s : Shared) (refused : Bool) → NoneStuck (end_of_job app who actor s refused).events
end_shows app who actor s false = only (Service who TerminateTask _) tt
end_shows app who actor s true = only (Fail who HeldAtEnd None) tt

step_by : (app : Application) (who : Who) (frames : List Frame) (refused : Bool) (later : List Reached) (s : Shared) → NoneStuck (step app who (record { frames = frames; refused = refused; later = later }) s).events
step_by app who [] refused later s = end_shows app who _ s refused
step_by app who (f ∷ callers) refused later s = run_frame_shows app who _ s (located app f) f callers (instruction_at (located app f) f.pc)

step_shows : (app : Application) (who : Who) (actor : Actor) (s : Shared) → NoneStuck (step app who actor s).events
step_shows app who actor s = step_by app who actor.frames actor.refused actor.later s

run_shows : (app : Application) (s : State) (o : Option Who) → NoneStuck (run app s o).events
run_shows app s None = nothing
run_shows app s (Some who) = step_shows app who (actor_of s who) s.shared

lost_shows : (alarms : List ℕ) → NoneStuck (map Lost alarms)
lost_shows alarms = All-map NotStuck Lost alarms (λ k d lt. tt)

tick_shows : (tables : Tables) (y : System) (counter : ℕ) (b : Bool) → y.started && not y.kernel.shut ≡ b → NoneStuck (tick_system tables y counter).events
tick_shows tables y counter true e = rw e (lost_shows (tick tables y.kernel counter).lost)
tick_shows tables y counter false e = rw e nothing

move_shows : (app : Application) (s : State) (m : Move) → NoneStuck (move app s m).events
move_shows app s Run = run_shows app s (acting s.shared.system)
move_shows app s (Tick counter) = tick_shows app.config.tables s.shared.system counter (s.shared.system.started && not s.shared.system.kernel.shut) refl
move_shows app s (Poke at bytes) = nothing

pub trace_shows : (app : Application) (s : State) (moves : List Move) → NoneStuck (trace_from app s moves)
trace_shows app s [] = nothing
trace_shows app s (m ∷ moves) =
    All-append NotStuck (move app s m).events _ (move_shows app s m) (trace_shows app (move app s m).state moves)

-- an event that isn't Stuck isn't anybody's
pub not_stuck : (who : Who) (e : Event) → NotStuck e → e ≢ Stuck who
not_stuck who e p same = subst NotStuck same p
