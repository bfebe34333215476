-- What a command of the code asks for.
use Rattle.std.specs.Prelude.{map, string_bytes}
use Rattle.keso_cli.specs.declared.words.Command.{Command}
use Rattle.keso_cli.specs.declared.words.Command.TheVariants.{Build, Trace}
use Rattle.keso_cli.specs.Request.{Request, Build as BuildRequest, Trace as TraceRequest}

abbrev pub asked : Command → Request
asked (Build words) = BuildRequest words.inputs.config.now (map string_bytes words.inputs.classes.now) words.base.now
asked (Trace words) = TraceRequest words.inputs.config.now words.script.now (map string_bytes words.inputs.classes.now)
