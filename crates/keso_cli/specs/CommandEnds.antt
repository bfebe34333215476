-- How the command that the words ask for ends.
use Rattle.std.specs.Prelude.{◌≡◌, Option, Some, None}
use Rattle.keso_cli.specs.declared.trouble.Trouble.{Trouble}
use Rattle.keso_cli.specs.declared.trouble.Trouble.TheVariants.{Usage}
use Rattle.keso_cli.specs.BuildEnds.{BuildIsDone, BuildStops}
use Rattle.keso_cli.specs.Request.{Request, Build, Trace}
use Rattle.replay.specs.Seen.{SinkSeen}
use Rattle.keso_cli.specs.Seen.{FilesSeen}
use Rattle.keso_cli.specs.TraceEnds.{TraceIsDone, TraceStops, trace_names}

abbrev pub CommandIsDone : Option Request → FilesSeen → FilesSeen → SinkSeen → SinkSeen → Type 0
CommandIsDone None files files' out out' = ⊥
CommandIsDone (Some (Build config classes base)) files files' out out' = BuildIsDone config classes base files files' out out'
CommandIsDone (Some (Trace config script classes)) files files' out out' = TraceIsDone (trace_names config script classes) files files' out out'

abbrev pub CommandStops : Trouble → Option Request → FilesSeen → FilesSeen → SinkSeen → SinkSeen → Type 0
CommandStops trouble None files files' out out' = (trouble ≡ Usage) × (files' ≡ files) × (out' ≡ out)
CommandStops trouble (Some (Build config classes base)) files files' out out' = BuildStops trouble config classes base files files' out out'
CommandStops trouble (Some (Trace config script classes)) files files' out out' = TraceStops trouble (trace_names config script classes) files files' out out'
