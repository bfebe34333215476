-- The moves of the bytecode that a list of moves of the C stands for. A statement stands for as many Runs as the map says
-- that it weighs.
use Rattle.std.specs.Prelude.{ℕ, List, [], ◌∷◌, ◌++◌, map, replicate, Option, Some, None, slice_get, slice_index, if◌then◌else◌}
use Rattle.osek_core.specs.declared.event.Who.{Who}
use Rattle.osek_core.specs.declared.moves.Move.{Move}
use Rattle.osek_core.specs.declared.moves.Move.TheVariants.{Run, Tick, Poke}
use Rattle.osek_core.specs.declared.tables.Tables.{Tables}
use Rattle.osek_core.specs.Kernel.System.{acting}
use Rattle.csubset.specs.declared.map.FunctionRow.{FunctionRow}
use Rattle.csubset.specs.declared.map.Map.{Map}
use Rattle.csubset.specs.declared.program.CProgram.{CProgram}
use Rattle.csubset.specs.Machine.Application.{CApplication}
use Rattle.csubset.specs.Machine.State.{Frame, Actor, State, actor_of, first_state}
use Rattle.csubset.specs.Machine.Step.{step}
use Rattle.csubset.specs.Machine.Trace.{c_move, after_step, owed}

-- what a statement weighs; one that has no weight in the map weighs 0
abbrev pub weight_at : Map → ℕ → ℕ → ℕ
weight_at map function place = of_row (slice_get map.functions function)
  where
    of_row : Option FunctionRow → ℕ
    of_row None = 0
    of_row (Some row) = slice_index row.weights place

-- what the next step of an actor weighs: its statement's weight, and 1 for a step of KTASK behind its entry
abbrev pub weight_of : Map → Actor → ℕ
weight_of map actor = of_frames actor.frames
  where
    of_frames : List Frame → ℕ
    of_frames [] = 1
    of_frames (f ∷ callers) = weight_at map f.function f.place

-- a step's Runs, and behind them the ticks that are served
abbrev pub run_image : CApplication → State → Option Who → List Move
run_image app s None = []
run_image app s (Some who) =
    replicate (weight_of app.map (actor_of s who)) Run ++ map Tick (owed (after_step s who (step app who (actor_of s who) s.shared)))

-- a tick that is kept stands where it is served
abbrev pub tick_image : State → ℕ → List Move
tick_image s counter = if s.shared.system.kernel.suspended then [] else Tick counter ∷ []

abbrev pub move_image : CApplication → State → Move → List Move
move_image app s Run = run_image app s (acting s.shared.system)
move_image app s (Tick counter) = tick_image s counter
move_image app s (Poke at bytes) = Poke at bytes ∷ []

abbrev pub image_from : CApplication → State → List Move → List Move
image_from app s [] = []
image_from app s (m ∷ moves) = move_image app s m ++ image_from app (c_move app s m).state moves

abbrev pub image : CProgram → Tables → Map → List Move → List Move
image program tables map moves =
    let app : CApplication = record { program = program; tables = tables; map = map } in
    image_from app (first_state app) moves
