-- Where the steps of a build stop.
use Rattle.std.specs.Prelude.{◌≡◌, ℕ, ◌-◌, ◌≤◌, List, [], Contains, slice_index_or, Option, Some, Result, IfSome, IsSomeAnd, string_bytes}
use Rattle.kes_outside.specs.Contents.{OthersStay}
use Rattle.kes_outside.specs.Count.{Rose}
use Rattle.kes_text.specs.declared.refusal.Refusal.{Refusal}
use Rattle.kes_text.specs.declared.refusal.Stop.{Stop}
use Rattle.keso_cli.specs.declared.trouble.Trouble.{Trouble}
use Rattle.keso_cli.specs.declared.trouble.Trouble.TheVariants.{CannotRead, Refused, CannotWrite, CannotWriteOutput, NoMemory}
use Rattle.keso_cli.specs.Texts.{Text}
use Rattle.keso_cli.specs.Left.{CannotBeRead, WrittenInPart, WriteFailed}
use Rattle.replay.specs.Seen.{SinkSeen, TakesPrefix}
use Rattle.keso_cli.specs.Seen.{FilesSeen}
use Rattle.keso_cli.specs.Refusals.{fault_of, input_refusal, refusal_of, name_of}

-- A file of this name isn't read.
abbrev pub ReadStops : Trouble → List ℕ → FilesSeen → FilesSeen → Type 0
ReadStops (CannotRead read) name before after = (read.now ≡ name) × CannotBeRead name before after
ReadStops NoMemory name before after = Unit {0}
ReadStops _ name before after = ⊥

-- Not all of the files of these names are read.
abbrev pub ReadsStop : Trouble → List (List ℕ) → FilesSeen → FilesSeen → Type 0
ReadsStop (CannotRead read) names before after = Contains names read.now × CannotBeRead read.now before after
ReadsStop NoMemory names before after = Unit {0}
ReadsStop _ names before after = ⊥

-- The file of this number and name has a fault.
abbrev pub FileStops : {A : Type 0} → Trouble → ℕ → List ℕ → Result A Stop → Type 0
FileStops (Refused refusal refused) number name read = (refused.now ≡ name) × (fault_of number read ≡ Some refusal)
FileStops NoMemory number name read = Unit {0}
FileStops _ number name read = ⊥

-- One of the class files has this fault; the first class file is number 1, and has the first of the names.
abbrev pub ClassesStop : Trouble → List (List ℕ) → Option Refusal → Type 0
ClassesStop (Refused refusal refused) names fault =
    (fault ≡ Some refusal) × (refused.now ≡ slice_index_or names (refusal.file - 1) []) × (1 ≤ refusal.file)
ClassesStop NoMemory names fault = Unit {0}
ClassesStop _ names fault = ⊥

-- There is this fault, and the file of its number, the configuration or a class file, has one of these names.
abbrev pub FaultStops : Trouble → List ℕ → List (List ℕ) → Option Refusal → Type 0
FaultStops (Refused refusal name) config classes fault = (name.now ≡ name_of config classes refusal.file) × (fault ≡ Some refusal)
FaultStops NoMemory config classes fault = Unit {0}
FaultStops _ config classes fault = ⊥

-- The input of these names, a configuration's text and the bytes of classes, is refused.
abbrev pub InputStops : Trouble → List ℕ → List (List ℕ) → List ℕ → List (List ℕ) → Type 0
InputStops trouble config classes text bytes = FaultStops trouble config classes (input_refusal text bytes)

-- It isn't compiled.
abbrev pub CompileStops : Trouble → List ℕ → List (List ℕ) → List ℕ → List (List ℕ) → Type 0
CompileStops trouble config classes text bytes = FaultStops trouble config classes (refusal_of text bytes)

-- A text isn't written to its file.
abbrev pub WriteStops : Trouble → Text → FilesSeen → FilesSeen → Type 0
WriteStops (CannotWrite written) text before after =
    (string_bytes written ≡ text.name) × Rose before.faults after.faults
    × IfSome before.contents (λ files. IsSomeAnd after.contents (OthersStay text.name files))
WriteStops NoMemory text before after = after.contents ≡ before.contents
WriteStops _ text before after = ⊥

-- Not all of the texts are written.
abbrev pub WritesStop : Trouble → List Text → FilesSeen → FilesSeen → Type 0
WritesStop (CannotWrite written) due before after = WriteFailed due (string_bytes written) before after
WritesStop NoMemory due before after = WrittenInPart due before after
WritesStop _ due before after = ⊥

-- The output doesn't take all of the lines.
abbrev pub PutStops : Trouble → List ℕ → SinkSeen → SinkSeen → Type 0
PutStops CannotWriteOutput lines before after = TakesPrefix lines before after × Rose before.faults after.faults
PutStops NoMemory lines before after = after.taken ≡ before.taken
PutStops _ lines before after = ⊥
