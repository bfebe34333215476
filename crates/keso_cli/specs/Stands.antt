-- What stands after a call of the program, by its status.
use Rattle.std.specs.Prelude.{◌≡◌, ℕ, List, ◌∷◌, Option, Some, None, ◌⊎◌, Contains}
use Rattle.kes_outside.specs.Count.{Rose}
use Rattle.kes_text.specs.declared.refusal.Refusal.{Refusal}
use Rattle.kes_text.specs.Complaints.{refusal_text, usage_text, cannot_read_text, cannot_write_text, no_output_text}
use Rattle.keso_cli.specs.declared.status.Status.{Status}
use Rattle.keso_cli.specs.declared.status.Status.TheVariants as status
use Rattle.keso_cli.specs.BuildEnds.{BuildIsDone, InputIsRefused, IsBuiltFrom, StoppedWriting, Untouched}
use Rattle.first_form.specs.declared.built.Built.{Built}
use Rattle.first_form.specs.Counts.{first_summary}
use Rattle.keso_cli.specs.Texts.{texts_of}
use Rattle.keso_cli.specs.Left.{CannotBeRead, Written, WriteFailed}
use Rattle.keso_cli.specs.Refusals.{name_of}
use Rattle.keso_cli.specs.Request.{Request, Build, Trace}
use Rattle.replay.specs.Seen.{SinkSeen, TakesPrefix}
use Rattle.keso_cli.specs.Seen.{FilesSeen, TakesUnlessFailed}
use Rattle.keso_cli.specs.Summary.{summary_text}
use Rattle.keso_cli.specs.Tells.{TellsNoMemory}
use Rattle.keso_cli.specs.TraceEnds.{TraceNames, trace_names, TraceIsDone, TraceIsRefused, TraceStopped}
use Rattle.keso_cli.specs.Traced.{Named}

-- the outside at one moment
pub record Outside : Type 0 where
  pub files : FilesSeen
  pub out : SinkSeen
  pub err : SinkSeen

abbrev pub NothingIsDone : Outside → Outside → Type 0
NothingIsDone before after = Untouched before.files after.files before.out after.out

-- Ok: every text stands whole in its file, no other file has changed, the output has taken the four lines,
-- and standard error nothing.
pub record OkStands (config : List ℕ) (classes : List (List ℕ)) (base : List ℕ) (before after : Outside) : Type 0 where
  pub build : BuildIsDone config classes base before.files after.files before.out after.out
  pub silent : after.err.taken ≡ before.err.taken

-- Refused: this is why the input isn't compiled.
pub record RefusedStands (config : List ℕ) (classes : List (List ℕ)) (before after : Outside) : Type 0 where
  pub refusal : Refusal
  pub cause : InputIsRefused refusal config classes before.files
  pub nothing : NothingIsDone before after
  pub line : TakesUnlessFailed (refusal_text refusal (name_of config classes refusal.file)) before.err after.err

-- No file was read or written, and nothing was put on the output: not even a count of faults has changed.
pub record NothingIsTried (before after : Outside) : Type 0 where
  pub files_stay : after.files ≡ before.files
  pub out_stays : after.out ≡ before.out

-- Usage: the words are no command.
pub record UsageStands (before after : Outside) : Type 0 where
  pub nothing : NothingIsTried before after
  pub line : TakesUnlessFailed usage_text before.err after.err

-- ReadFault: one of the files to be read can't be.
pub record ReadFaultStands (reads : List (List ℕ)) (before after : Outside) : Type 0 where
  pub name : List ℕ
  pub is_read : Contains reads name
  pub cause : CannotBeRead name before.files after.files
  pub nothing : NothingIsDone before after
  pub line : TakesUnlessFailed (cannot_read_text name) before.err after.err

-- WriteFault of a file: the files before it are whole, and the later ones untouched.
pub record FileFaultStands (config : List ℕ) (classes : List (List ℕ)) (base : List ℕ) (before after : Outside) : Type 0 where
  pub built : Built
  pub from : IsBuiltFrom built config classes before.files
  pub name : List ℕ
  pub stands : WriteFailed (texts_of base built) name before.files after.files
  pub out_stays : after.out.taken ≡ before.out.taken
  pub line : TakesUnlessFailed (cannot_write_text name) before.err after.err

-- WriteFault of the output: the files are whole, and the output has taken some first bytes of the lines.
pub record OutputFaultStands (config : List ℕ) (classes : List (List ℕ)) (base : List ℕ) (before after : Outside) : Type 0 where
  pub built : Built
  pub from : IsBuiltFrom built config classes before.files
  pub stands : Written (texts_of base built) before.files after.files
  pub out_took : TakesPrefix (summary_text first_summary) before.out after.out
  pub counted : Rose before.out.faults after.out.faults
  pub line : TakesUnlessFailed no_output_text before.err after.err

-- how far a build came that wrote something: its first texts are whole, or all and some of the lines are
-- put, or a write failed
abbrev pub CameSoFar : List ℕ → List (List ℕ) → List ℕ → Outside → Outside → Type 0
CameSoFar config classes base before after = (built : Built) × IsBuiltFrom built config classes before.files
    × (StoppedWriting base built before.files after.files before.out after.out
    ⊎ (((name : List ℕ) × WriteFailed (texts_of base built) name before.files after.files) × (after.out.taken ≡ before.out.taken)))

-- NoMemory: nothing is done, or a build came so far.
pub record NoMemoryStands (config : List ℕ) (classes : List (List ℕ)) (base : List ℕ) (before after : Outside) : Type 0 where
  pub far : NothingIsDone before after ⊎ CameSoFar config classes base before after
  pub line : TellsNoMemory before.err after.err

pub record NoMemoryForUsage (before after : Outside) : Type 0 where
  pub nothing : NothingIsTried before after
  pub line : TellsNoMemory before.err after.err

-- Words that are no command end with Usage, unless there is no memory to say so.
abbrev pub StandsWithoutCommand : Status → Outside → Outside → Type 0
StandsWithoutCommand status.Usage before after = UsageStands before after
StandsWithoutCommand status.NoMemory before after = NoMemoryForUsage before after
StandsWithoutCommand _ before after = ⊥

-- The words of a command never end with Usage.
abbrev pub StandsAfterBuild : Status → List ℕ → List (List ℕ) → List ℕ → Outside → Outside → Type 0
StandsAfterBuild status.Ok config classes base before after = OkStands config classes base before after
StandsAfterBuild status.Refused config classes base before after = RefusedStands config classes before after
StandsAfterBuild status.Usage config classes base before after = ⊥
StandsAfterBuild status.ReadFault config classes base before after = ReadFaultStands (config ∷ classes) before after
StandsAfterBuild status.WriteFault config classes base before after =
    FileFaultStands config classes base before after ⊎ OutputFaultStands config classes base before after
StandsAfterBuild status.NoMemory config classes base before after = NoMemoryStands config classes base before after

-- ---- a trace

-- Ok: the output has taken the lines of what the run shows, no file has changed, and standard error has taken nothing.
pub record TraceOkStands (names : TraceNames) (before after : Outside) : Type 0 where
  pub trace : TraceIsDone names before.files after.files before.out after.out
  pub silent : after.err.taken ≡ before.err.taken

-- Refused: this is why the input or the script isn't traced.
pub record TraceRefusedStands (names : TraceNames) (before after : Outside) : Type 0 where
  pub refused : Named
  pub cause : TraceIsRefused refused names before.files
  pub nothing : NothingIsDone before after
  pub line : TakesUnlessFailed (refusal_text refused.refusal refused.name) before.err after.err

-- WriteFault: the output has taken some first bytes of the lines, and failed then.
pub record TraceOutputFaultStands (names : TraceNames) (before after : Outside) : Type 0 where
  pub stopped : TraceStopped names before.files after.files before.out after.out
  pub counted : Rose before.out.faults after.out.faults
  pub line : TakesUnlessFailed no_output_text before.err after.err

-- NoMemory: nothing is done, or the output has taken some first bytes of the lines.
pub record TraceNoMemoryStands (names : TraceNames) (before after : Outside) : Type 0 where
  pub far : NothingIsDone before after ⊎ TraceStopped names before.files after.files before.out after.out
  pub line : TellsNoMemory before.err after.err

abbrev pub StandsAfterTrace : Status → TraceNames → Outside → Outside → Type 0
StandsAfterTrace status.Ok names before after = TraceOkStands names before after
StandsAfterTrace status.Refused names before after = TraceRefusedStands names before after
StandsAfterTrace status.Usage names before after = ⊥
StandsAfterTrace status.ReadFault names before after = ReadFaultStands (names.config ∷ names.script ∷ names.classes) before after
StandsAfterTrace status.WriteFault names before after = TraceOutputFaultStands names before after
StandsAfterTrace status.NoMemory names before after = TraceNoMemoryStands names before after

abbrev pub Stands : Status → Option Request → Outside → Outside → Type 0
Stands answer None before after = StandsWithoutCommand answer before after
Stands answer (Some (Build config classes base)) before after = StandsAfterBuild answer config classes base before after
Stands answer (Some (Trace config script classes)) before after = StandsAfterTrace answer (trace_names config script classes) before after
