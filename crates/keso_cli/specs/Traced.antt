-- What a trace shows of an input and a script, and why these are refused.
use Rattle.std.specs.Prelude.{◌≡◌, ℕ, ◌^◌, ◌==◌, ◌&&◌, Bool, true, List, length, Option, Some, None, Result, Ok, option_map, if◌then◌else◌}
use Rattle.std.specs.Option.{option_or}
use Rattle.std.specs.Result.{result_ok}
use Rattle.kes_text.specs.declared.refusal.Refusal.{Refusal}
use Rattle.kes_text.specs.declared.refusal.Stop.{Stop}
use Rattle.classfile.specs.ClassFile.{ClassInfo}
use Rattle.classfile.specs.Pool.{◌>>=◌}
use Rattle.kbind.specs.declared.bound.Bound.{Bound}
use Rattle.kconfig.specs.declared.config.Config.{Config}
use Rattle.script.specs.declared.line.Line.{Line}
use Rattle.script.specs.Reading.{script_of}
use Rattle.script.specs.Writing.{moves_of}
use Rattle.run_names.specs.Objects.{names_of}
use Rattle.reach.specs.declared.reached.Reached.{Reached}
use Rattle.reach.specs.Reach.{reach_of}
use Rattle.run_input.specs.Input.{application_of, shown_names}
use Rattle.b_machine.specs.Application.{Application}
use Rattle.b_machine.specs.Trace.{trace}
use Rattle.replay.specs.Text.{trace_text}
use Rattle.first_form.specs.Configuration.{configuration}
use Rattle.keso_cli.specs.Refusals.{fault_of, input_refusal, later, name_of}
use Rattle.keso_cli.specs.Taken.{IsTaken}

-- ---- the script

-- the most moves of a script
abbrev pub most_moves : ℕ
most_moves = 10 ^ 18

-- what a script says under a configuration
unfoldable pub script_in : Config → List ℕ → Result (List Line) Stop
script_in config script = script_of (names_of config) most_moves script

-- ---- the lines

unfoldable pub lines_of : Application → List Line → List ℕ
lines_of app said = trace_text (shown_names app) (trace app (moves_of said))

-- a configuration without a line of device bytes, cells, objects, device methods or portals
abbrev pub is_traced : Config → Bool
is_traced config =
    config.devices.line == 0 && length config.cells == 0 && length config.objects == 0 && length config.device_methods == 0 && length config.portals == 0

-- the application that an input is, which is taken
pub record IsInputOf (text : List ℕ) (files : List (List ℕ)) (app : Application) : Type 0 where
  pub bound : Bound
  pub classes : List ClassInfo
  pub reached : Reached
  pub taken : IsTaken text files bound classes
  pub are_reached : reach_of (record { files = classes; bound = bound }) ≡ Ok reached
  pub app_is : app ≡ application_of classes bound reached

-- an input and a script that are traced, with the lines of what the run shows
pub record IsTraceOf (text script : List ℕ) (files : List (List ℕ)) (lines : List ℕ) : Type 0 where
  pub app : Application
  pub input : IsInputOf text files app
  pub said : List Line
  pub script_is : script_in app.bound.config script ≡ Ok said
  pub traced : is_traced app.bound.config ≡ true
  pub lines_are : lines ≡ lines_of app said

-- ---- why they are refused

-- a refusal, and the name of the file that it is about
pub record Named : Type 0 where
  pub refusal : Refusal
  pub name : List ℕ

abbrev pub named : List ℕ → Refusal → Named
named name refusal = record { refusal = refusal; name = name }

-- by the name of the file of its number
abbrev pub of_inputs : List ℕ → List (List ℕ) → Refusal → Named
of_inputs config classes refusal = named (name_of config classes refusal.file) refusal

abbrev pub script_refusal : Config → List ℕ → Option Refusal
script_refusal config script = fault_of 0 (script_in config script)

abbrev pub later_refusal : Config → Option Refusal
later_refusal config = if is_traced config then None else Some later

-- behind the refusals of the configuration and the classes comes that of the script, and then that such a configuration isn't
-- traced yet
unfoldable pub trace_refusal : List ℕ → List ℕ → List (List ℕ) → List ℕ → List ℕ → List (List ℕ) → Option Named
trace_refusal config script classes text script_text files =
    option_or (option_map (of_inputs config classes) (input_refusal text files))
    (option_or (option_map (named script) (result_ok (configuration text) >>= λ read. script_refusal read script_text))
    (option_map (named config) (result_ok (configuration text) >>= later_refusal)))
