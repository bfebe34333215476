-- What a trace runs, and where it stops before its first move and on its way.
use Rattle.std.specs.Prelude.{◌≡◌, ℕ, true, List, Some, Ok}
use Rattle.kes_outside.specs.Count.{Rose}
use Rattle.classfile.specs.ClassFile.{ClassInfo}
use Rattle.kbind.specs.declared.bound.Bound.{Bound}
use Rattle.reach.specs.declared.reached.Reached.{Reached}
use Rattle.run_input.specs.Input.{application_of, shown_names}
use Rattle.run_names.specs.Objects.{names_of}
use Rattle.script.specs.Names.{event_names}
use Rattle.keso_cli.specs.declared.trouble.Trouble.{Trouble}
use Rattle.keso_cli.specs.declared.trouble.Trouble.TheVariants.{Refused, CannotWriteOutput, NoMemory}
use Rattle.keso_cli.specs.declared.tracing.Run.{Run}
use Rattle.replay.specs.Seen.{SinkSeen, TakesPrefix}
use Rattle.keso_cli.specs.TraceEnds.{TraceNames}
use Rattle.keso_cli.specs.Traced.{IsInputOf, script_in, is_traced, named, trace_refusal}

-- a run of these classes, bound so, and of what is reached
pub record IsRunOf (classes : List ClassInfo) (bound : Bound) (reached : Reached) (run : Run) : Type 0 where
  pub program : run.program ≡ application_of classes bound reached
  pub names : event_names run.names ≡ shown_names run.program
  pub counters : run.names.counters ≡ (names_of bound.config).counters
  pub events : run.names.events ≡ (names_of bound.config).events

-- a run of an input and a script that are traced
pub record IsRun (text script : List ℕ) (files : List (List ℕ)) (run : Run) : Type 0 where
  pub input : IsInputOf text files run.program
  pub script_is : script_in run.program.bound.config script ≡ Ok run.lines.items
  pub traced : is_traced run.program.bound.config ≡ true
  pub names : event_names run.names ≡ shown_names run.program

-- They are refused before the first move.
abbrev pub RunStops : Trouble → TraceNames → List ℕ → List ℕ → List (List ℕ) → Type 0
RunStops (Refused refusal name) names text script files = trace_refusal names.config names.script names.classes text script files ≡ Some (named name.now refusal)
RunStops NoMemory names text script files = Unit {0}
RunStops _ names text script files = ⊥

-- The output has taken the first bytes of the lines.
abbrev pub ShowStops : Trouble → List ℕ → SinkSeen → SinkSeen → Type 0
ShowStops CannotWriteOutput lines before after = TakesPrefix lines before after × Rose before.faults after.faults
ShowStops NoMemory lines before after = TakesPrefix lines before after
ShowStops _ lines before after = ⊥
