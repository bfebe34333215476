-- A configuration as its text says it, or its first fault.
use Rattle.std.specs.Prelude.{ℕ, ◌+◌, List, [], ◌∷◌, length, codes, Result, Ok, bytes_eq, if◌then◌else◌}
use Rattle.std.specs.List.{flat_map}
use Rattle.kes_text.specs.declared.refusal.Stop.{Stop}
use Rattle.kes_text.specs.declared.refusal.Kind.TheVariants as kind
use Rattle.kconfig.specs.declared.config.Config.{Config}
use Rattle.kconfig.specs.declared.config.Line.{Line}
use Rattle.kconfig.specs.declared.config.Line.TheVariants as line
use Rattle.text_words.specs.Said.{◌>>=◌, refused}
use Rattle.text_words.specs.TextLines.{all_lines, spoken_lines, words}
use Rattle.kconfig.specs.Config.{Before, first_config, with_line, after}
use Rattle.kconfig.specs.Devices.{keso_line, devices_line, domain_line, counter_line, name_line, cell_line, object_line}
use Rattle.kconfig.specs.Tasks.{task_line, use_line, wait_line}
use Rattle.kconfig.specs.Alarms.{alarm_line, start_line}
use Rattle.kconfig.specs.Methods.{native_line, device_line, portal_line}

-- what a line behind the first says by its first word and the others
unfoldable pub line_by : Before → ℕ → List ℕ → List (List ℕ) → Result Line Stop
line_by before n first others =
    if bytes_eq first (codes "devices") then devices_line before n others >>= (λ x. Ok (line.Devices x))
    else if bytes_eq first (codes "domain") then domain_line before n others >>= (λ x. Ok (line.Domain x))
    else if bytes_eq first (codes "counter") then counter_line before n others >>= (λ x. Ok (line.Counter x))
    else if bytes_eq first (codes "event") then name_line before.config.events 31 n others >>= (λ x. Ok (line.Event x))
    else if bytes_eq first (codes "resource") then name_line before.config.resources 32 n others >>= (λ x. Ok (line.Resource x))
    else if bytes_eq first (codes "task") then task_line before n others >>= (λ x. Ok (line.Task x))
    else if bytes_eq first (codes "use") then use_line before n others >>= (λ x. Ok (line.Use x))
    else if bytes_eq first (codes "wait") then wait_line before n others >>= (λ x. Ok (line.Wait x))
    else if bytes_eq first (codes "alarm") then alarm_line before n others >>= (λ x. Ok (line.Alarm x))
    else if bytes_eq first (codes "start") then start_line before n others >>= (λ x. Ok (line.Start x))
    else if bytes_eq first (codes "native") then native_line before n others >>= (λ x. Ok (line.Native x))
    else if bytes_eq first (codes "cell") then cell_line before n others >>= (λ x. Ok (line.Cell x))
    else if bytes_eq first (codes "object") then object_line before n others >>= (λ x. Ok (line.Object x))
    else if bytes_eq first (codes "device") then device_line before n others >>= (λ x. Ok (line.Device x))
    else if bytes_eq first (codes "portal") then portal_line before n others >>= (λ x. Ok (line.Portal x))
    else refused kind.Syntax n

abbrev pub line_of : Before → ℕ → List (List ℕ) → Result Line Stop
line_of before n [] = refused kind.Syntax n
line_of before n (first ∷ others) = line_by before n first others

-- what stands behind a line
abbrev pub behind_line : Before → ℕ → List (List ℕ) → Result Before Stop
behind_line before n line_words = line_of before n line_words >>= (λ x. Ok (after before x))

-- the configuration with what the lines say, one after the other
unfoldable pub config_with : List (List ℕ × List ℕ) → Config → List (ℕ × List ℕ) → Result Config Stop
config_with waits c [] = Ok c
config_with waits c (next ∷ lines) =
    line_of (record { config = c; waits = waits }) next.0 (words next.1) >>= (λ x. config_with waits (with_line c x) lines)

-- the task and the event of a `wait` line, whatever they are
abbrev pub wait_words : List (List ℕ) → List (List ℕ × List ℕ)
wait_words (first ∷ task ∷ event ∷ []) = if bytes_eq first (codes "wait") then (task, event) ∷ [] else []
wait_words _ = []

abbrev pub waits_of : List (ℕ × List ℕ) → List (List ℕ × List ℕ)
waits_of lines = flat_map (λ x. wait_words (words x.1)) lines

-- the first line is the `keso` line
abbrev pub config_from : ℕ × List ℕ → List (ℕ × List ℕ) → Result Config Stop
config_from first lines =
    keso_line first.0 (words first.1) >>= (λ keso. config_with (waits_of lines) (first_config keso) lines)

-- `end` is the number behind that of the last line
abbrev pub config_of_lines : ℕ → List (ℕ × List ℕ) → Result Config Stop
config_of_lines end [] = refused kind.Syntax end
config_of_lines end (first ∷ lines) = config_from first lines

abbrev pub config_of : List ℕ → Result Config Stop
config_of text = config_of_lines (length (all_lines text) + 1) (spoken_lines text)
