-- How a build ends, and what then stands in the files and on the output.
use Rattle.std.specs.Prelude.{◌≡◌, ℕ, List, ◌∷◌, Some, IfSome, ◌⊎◌, Contains, string_bytes, map}
use Rattle.std.specs.FinMap.{get}
use Rattle.kes_outside.specs.Count.{Rose}
use Rattle.kes_text.specs.declared.refusal.Refusal.{Refusal}
use Rattle.keso_cli.specs.declared.trouble.Trouble.{Trouble}
use Rattle.keso_cli.specs.declared.trouble.Trouble.TheVariants.{Usage, CannotRead, Refused, CannotWrite, CannotWriteOutput, NoMemory}
use Rattle.first_form.specs.declared.built.Built.{Built}
use Rattle.first_form.specs.Headline.{Headline}
use Rattle.keso_cli.specs.Texts.{texts_of}
use Rattle.keso_cli.specs.Summary.{summary_text}
use Rattle.replay.specs.Seen.{SinkSeen, Takes, TakesPrefix}
use Rattle.keso_cli.specs.Seen.{FilesSeen}
use Rattle.keso_cli.specs.Left.{CannotBeRead, Written, WrittenInPart, WriteFailed}
use Rattle.first_form.specs.declared.config.FirstConfig.{FirstConfig}
use Rattle.first_form.specs.declared.first_class.FirstClass.{FirstClass}
use Rattle.first_form.specs.Counts.{first_summary}
use Rattle.keso_cli.specs.Refusals.{IsAccepted, refusal_of, name_of}
use Rattle.first_form.specs.Program.{built_of}

-- The files are as before, and the output has taken nothing.
pub record Untouched (files files' : FilesSeen) (out out' : SinkSeen) : Type 0 where
  pub files_stay : files'.contents ≡ files.contents
  pub out_stays : out'.taken ≡ out.taken

-- A configuration and classes say this. Where it is told what the files hold, they are what the files of these names hold.
abbrev pub InputSays : (List ℕ → List (List ℕ) → Type 0) → List ℕ → List (List ℕ) → FilesSeen → Type 0
InputSays says config classes files = (text : List ℕ) × (bytes : List (List ℕ)) × says text bytes
    × IfSome files.contents (λ held. (get held config ≡ Some text) × (map (get held) classes ≡ map Some bytes))

-- They are of the first form, and aren't refused.
abbrev pub InputIsOf : FirstConfig → FirstClass → List ℕ → List (List ℕ) → FilesSeen → Type 0
InputIsOf first second = InputSays (λ text bytes. IsAccepted text bytes first second)

-- They are refused.
abbrev pub InputIsRefused : Refusal → List ℕ → List (List ℕ) → FilesSeen → Type 0
InputIsRefused refusal = InputSays (λ text bytes. refusal_of text bytes ≡ Some refusal)

-- What was built is what is written for the input, and keeps the headline.
pub record IsBuiltFrom (built : Built) (config : List ℕ) (classes : List (List ℕ)) (files : FilesSeen) : Type 0 where
  pub first : FirstConfig
  pub second : FirstClass
  pub said : InputIsOf first second config classes files
  pub made : built ≡ built_of first second
  pub headline : Headline built first second

-- A build made its texts before it wrote the first: this is how far it came.
abbrev pub StoppedWriting : List ℕ → Built → FilesSeen → FilesSeen → SinkSeen → SinkSeen → Type 0
StoppedWriting base built files files' out out' =
    (WrittenInPart (texts_of base built) files files' × (out'.taken ≡ out.taken))
    ⊎ (Written (texts_of base built) files files' × TakesPrefix (summary_text first_summary) out out')

-- All texts stand in their files, and the output has taken the four lines.
pub record BuildIsDone (config : List ℕ) (classes : List (List ℕ)) (base : List ℕ) (files files' : FilesSeen) (out out' : SinkSeen) : Type 0 where
  pub built : Built
  pub from : IsBuiltFrom built config classes files
  pub stands : Written (texts_of base built) files files'
  pub lines : Takes (summary_text first_summary) out out'

abbrev pub BuildStops : Trouble → List ℕ → List (List ℕ) → List ℕ → FilesSeen → FilesSeen → SinkSeen → SinkSeen → Type 0
BuildStops Usage config classes base files files' out out' = ⊥
BuildStops (CannotRead name) config classes base files files' out out' =
    Contains (config ∷ classes) name.now × CannotBeRead name.now files files' × Untouched files files' out out'
BuildStops (Refused refusal name) config classes base files files' out out' =
    (name.now ≡ name_of config classes refusal.file) × InputIsRefused refusal config classes files × Untouched files files' out out'
BuildStops (CannotWrite name) config classes base files files' out out' =
    (built : Built) × IsBuiltFrom built config classes files
    × WriteFailed (texts_of base built) (string_bytes name) files files' × (out'.taken ≡ out.taken)
BuildStops CannotWriteOutput config classes base files files' out out' =
    (built : Built) × IsBuiltFrom built config classes files
    × Written (texts_of base built) files files'
    × TakesPrefix (summary_text first_summary) out out' × Rose out.faults out'.faults
BuildStops NoMemory config classes base files files' out out' =
    Untouched files files' out out'
    ⊎ ((built : Built) × IsBuiltFrom built config classes files × StoppedWriting base built files files' out out')
