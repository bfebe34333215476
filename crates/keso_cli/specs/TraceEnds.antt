-- How a trace ends, and what the output has taken then.
use Rattle.std.specs.Prelude.{◌≡◌, ℕ, List, ◌∷◌, Some, IfSome, ◌⊎◌, Contains, map}
use Rattle.std.specs.FinMap.{get}
use Rattle.kes_outside.specs.Count.{Rose}
use Rattle.keso_cli.specs.declared.trouble.Trouble.{Trouble}
use Rattle.keso_cli.specs.declared.trouble.Trouble.TheVariants.{Usage, CannotRead, Refused, CannotWrite, CannotWriteOutput, NoMemory}
use Rattle.keso_cli.specs.BuildEnds.{Untouched}
use Rattle.keso_cli.specs.Left.{CannotBeRead}
use Rattle.replay.specs.Seen.{SinkSeen, Takes, TakesPrefix}
use Rattle.keso_cli.specs.Seen.{FilesSeen}
use Rattle.keso_cli.specs.Traced.{IsTraceOf, Named, named, trace_refusal}

-- the names of a trace's files
pub record TraceNames : Type 0 where
  pub config : List ℕ
  pub script : List ℕ
  pub classes : List (List ℕ)

abbrev pub trace_names : List ℕ → List ℕ → List (List ℕ) → TraceNames
trace_names config script classes = record { config = config; script = script; classes = classes }

-- A configuration, a script and classes say this. Where it is told what the files hold, they are what the files of these names hold.
abbrev pub TraceSays : (List ℕ → List ℕ → List (List ℕ) → Type 0) → TraceNames → FilesSeen → Type 0
TraceSays says names files = (text : List ℕ) × (script : List ℕ) × (bytes : List (List ℕ)) × says text script bytes
    × IfSome files.contents (λ held. (get held names.config ≡ Some text) × (get held names.script ≡ Some script) × (map (get held) names.classes ≡ map Some bytes))

-- They show these lines.
abbrev pub ShowsLines : List ℕ → TraceNames → FilesSeen → Type 0
ShowsLines lines = TraceSays (λ text script bytes. IsTraceOf text script bytes lines)

-- They are refused, and this is the name of the file that the refusal is about.
abbrev pub TraceIsRefused : Named → TraceNames → FilesSeen → Type 0
TraceIsRefused refused names = TraceSays (λ text script bytes. trace_refusal names.config names.script names.classes text script bytes ≡ Some refused) names

-- The files are as before, and the output has taken the lines.
pub record TraceIsDone (names : TraceNames) (files files' : FilesSeen) (out out' : SinkSeen) : Type 0 where
  pub lines : List ℕ
  pub shows : ShowsLines lines names files
  pub files_stay : files'.contents ≡ files.contents
  pub takes : Takes lines out out'

-- The files are as before, and the output has taken the first bytes of the lines.
pub record TraceStopped (names : TraceNames) (files files' : FilesSeen) (out out' : SinkSeen) : Type 0 where
  pub lines : List ℕ
  pub shows : ShowsLines lines names files
  pub files_stay : files'.contents ≡ files.contents
  pub takes : TakesPrefix lines out out'

abbrev pub TraceStops : Trouble → TraceNames → FilesSeen → FilesSeen → SinkSeen → SinkSeen → Type 0
TraceStops Usage names files files' out out' = ⊥
TraceStops (CannotRead name) names files files' out out' =
    Contains (names.config ∷ names.script ∷ names.classes) name.now × CannotBeRead name.now files files' × Untouched files files' out out'
TraceStops (Refused refusal name) names files files' out out' = TraceIsRefused (named name.now refusal) names files × Untouched files files' out out'
TraceStops (CannotWrite name) names files files' out out' = ⊥
TraceStops CannotWriteOutput names files files' out out' = TraceStopped names files files' out out' × Rose out.faults out'.faults
TraceStops NoMemory names files files' out out' = Untouched files files' out out' ⊎ TraceStopped names files files' out out'
