-- The events that a list of moves shows. While interrupts are suspended ticks are kept, and behind RESUME they are
-- served, the counters in the order of the tables, each tick by itself.
use Rattle.std.specs.Prelude.{ℕ, ◌+◌, ◌-◌, ◌^◌, min, List, [], ◌∷◌, ◌++◌, map, take, replicate, Option, Some, None, if◌then◌else◌, slice_index, slice_set}
use Rattle.osek_core.specs.declared.event.Who.{Who}
use Rattle.osek_core.specs.declared.event.Event.{Event}
use Rattle.osek_core.specs.declared.moves.Move.{Move}
use Rattle.osek_core.specs.declared.moves.Move.TheVariants.{Run, Tick, Poke}
use Rattle.osek_core.specs.declared.tables.Tables.{Tables}
use Rattle.osek_core.specs.Kernel.System.{System, SystemTicked, acting, tick_system}
use Rattle.osek_core.specs.Bytecode.Trace.{written}
use Rattle.csubset.specs.declared.map.Map.{Map}
use Rattle.csubset.specs.declared.program.CProgram.{CProgram}
use Rattle.csubset.specs.Machine.Application.{CApplication}
use Rattle.csubset.specs.Machine.State.{State, actor_of, set_actor, first_state}
use Rattle.csubset.specs.Machine.Step.{Stepped, step}

-- the state after a move, and what the move shows
pub record Moved : Type 0 where
  pub state : State
  pub events : List Event

-- how many ticks of one counter can be served later; a further one counts as kept
abbrev pub most_kept : ℕ
most_kept = 2 ^ 64 - 1

abbrev pub keep : List ℕ → ℕ → List ℕ
keep kept counter = slice_set kept counter (min (slice_index kept counter + 1) most_kept)

-- the kept ticks by their counters, from this counter on
abbrev pub kept_from : ℕ → List ℕ → List ℕ
kept_from counter [] = []
kept_from counter (n ∷ more) = replicate n counter ++ kept_from (counter + 1) more

-- the ticks that are served before the next move: none while interrupts are suspended
abbrev pub owed : State → List ℕ
owed s = if s.shared.system.kernel.suspended then [] else kept_from 0 s.kept

-- ticks of these counters, one after another
abbrev pub ticks : Tables → System → List ℕ → SystemTicked
ticks tables y [] = record { system = y; events = [] }
ticks tables y (counter ∷ more) =
    let first = tick_system tables y counter in
    let rest = ticks tables first.system more in
    record { system = rest.system; events = first.events ++ rest.events }

abbrev pub set_system : State → System → State
set_system s y = record s { shared = record s.shared { system = y } }

-- the kept ticks are served
abbrev pub serve_kept : CApplication → State → Moved
serve_kept app s =
    let served = ticks app.tables s.shared.system (owed s) in
    record {
      state = record (set_system s served.system) { kept = (if s.shared.system.kernel.suspended then s.kept else map (λ n. 0) s.kept) };
      events = served.events;
    }

-- the state after a step of an actor, and before kept ticks are served
abbrev pub after_step : State → Who → Stepped → State
after_step s who stepped = record (set_actor s who stepped.actor) { shared = stepped.shared }

-- a step, and behind it the ticks that it leaves to be served
abbrev pub moved_by : CApplication → State → Who → Stepped → Moved
moved_by app s who stepped =
    let served = serve_kept app (after_step s who stepped) in
    record { state = served.state; events = stepped.events ++ served.events }

-- one step of whoever acts, and nothing where nobody does
abbrev pub run : CApplication → State → Option Who → Moved
run app s None = record { state = s; events = [] }
run app s (Some who) = moved_by app s who (step app who (actor_of s who) s.shared)

-- a tick is kept, or is the system's tick with its lost actions
abbrev pub tick_move : CApplication → State → ℕ → Moved
tick_move app s counter =
    let ticked = tick_system app.tables s.shared.system counter in
    if s.shared.system.kernel.suspended then record { state = record s { kept = keep s.kept counter }; events = [] }
    else record { state = set_system s ticked.system; events = ticked.events }

-- device bytes change, at any time
abbrev pub poke : State → ℕ → List ℕ → Moved
poke s at bytes =
    record { state = record s { shared = record s.shared { devices = written s.shared.devices at bytes } }; events = [] }

abbrev pub c_move : CApplication → State → Move → Moved
c_move app s Run = run app s (acting s.shared.system)
c_move app s (Tick counter) = tick_move app s counter
c_move app s (Poke at bytes) = poke s at (take bytes.len bytes.bytes)

abbrev pub c_trace_from : CApplication → State → List Move → List Event
c_trace_from app s [] = []
c_trace_from app s (m ∷ moves) = let moved = c_move app s m in moved.events ++ c_trace_from app moved.state moves

abbrev pub c_trace : CProgram → Tables → Map → List Move → List Event
c_trace program tables map moves =
    let app : CApplication = record { program = program; tables = tables; map = map } in
    c_trace_from app (first_state app) moves
