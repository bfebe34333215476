-- What is told of a trouble: a status, and a line on standard error.
use Rattle.std.specs.Prelude.{◌≡◌, ℕ, List, ◌⊎◌, string_bytes}
use Rattle.kes_text.specs.Complaints.{refusal_text, usage_text, cannot_read_text, cannot_write_text, no_output_text, no_memory_text}
use Rattle.keso_cli.specs.declared.trouble.Trouble.{Trouble}
use Rattle.keso_cli.specs.declared.trouble.Trouble.TheVariants as trouble
use Rattle.keso_cli.specs.declared.status.Status.{Status}
use Rattle.keso_cli.specs.declared.status.Status.TheVariants as status
use Rattle.replay.specs.Seen.{SinkSeen}
use Rattle.keso_cli.specs.Seen.{TakesUnlessFailed}

abbrev pub status_of : Trouble → Status
status_of trouble.Usage = status.Usage
status_of (trouble.CannotRead name) = status.ReadFault
status_of (trouble.Refused refusal name) = status.Refused
status_of (trouble.CannotWrite name) = status.WriteFault
status_of trouble.CannotWriteOutput = status.WriteFault
status_of trouble.NoMemory = status.NoMemory

abbrev pub line_of : Trouble → List ℕ
line_of trouble.Usage = usage_text
line_of (trouble.CannotRead name) = cannot_read_text name.now
line_of (trouble.Refused refusal name) = refusal_text refusal name.now
line_of (trouble.CannotWrite name) = cannot_write_text (string_bytes name)
line_of trouble.CannotWriteOutput = no_output_text
line_of trouble.NoMemory = no_memory_text

-- The line of want of memory, or nothing where there is no memory for it either.
abbrev pub TellsNoMemory : SinkSeen → SinkSeen → Type 0
TellsNoMemory before after = TakesUnlessFailed no_memory_text before after ⊎ (after.taken ≡ before.taken)

-- The trouble's status and line, or want of memory in their place.
abbrev pub Tells : Trouble → Status → SinkSeen → SinkSeen → Type 0
Tells about answer before after =
    ((answer ≡ status_of about) × TakesUnlessFailed (line_of about) before after)
    ⊎ ((answer ≡ status.NoMemory) × TellsNoMemory before after)
