-- A script as its text says it, or its first fault.
use Rattle.std.specs.Prelude.{ℕ, ◌+◌, ◌^◌, nat_le, Bool, ◌&&◌, List, [], ◌∷◌, ◌++◌, codes, Result, Ok, bytes_eq, if◌then◌else◌}
use Rattle.std.specs.List.{position}
use Rattle.kes_text.specs.declared.refusal.Stop.{Stop}
use Rattle.kes_text.specs.declared.refusal.Kind.TheVariants as kind
use Rattle.osek_core.specs.declared.moves.Move.TheVariants.{Run, Tick, Poke}
use Rattle.text_words.specs.declared.number.Number.{Number}
use Rattle.text_words.specs.Numbers.{number_of, is_number, within, value}
use Rattle.text_words.specs.Said.{◌>>=◌, refused, check, known}
use Rattle.text_words.specs.TextLines.{spoken_lines, words}
use Rattle.script.specs.declared.line.Line.{Line}
use Rattle.script.specs.declared.names.Names.{Names}
use Rattle.script.specs.Hex.{is_hex, poke_bytes}
use Rattle.script.specs.InTurn.{in_turn}

-- a count of moves: from 1 to 10^18
abbrev pub counted : ℕ → Number → Result ℕ Stop
counted n number = do
  form ← check (is_number number) kind.Syntax n
  range ← check (within 1 (10 ^ 18) number) kind.Range n
  Ok (value number)

-- the count at the end of a line, which is 1 where it is left out
abbrev pub times_of : ℕ → List (List ℕ) → Result ℕ Stop
times_of n [] = Ok 1
times_of n (word ∷ []) = counted n (number_of word)
times_of n _ = refused kind.Syntax n

-- `run [N]`
abbrev pub run_line : ℕ → List (List ℕ) → Result Line Stop
run_line n others = do
  times ← times_of n others
  Ok (record { times = times; step = Run })

-- `tick COUNTER [N]`
abbrev pub tick_line : Names → ℕ → List (List ℕ) → Result Line Stop
tick_line names n [] = refused kind.Syntax n
tick_line names n (counter ∷ others) = do
  times ← times_of n others
  place ← known (position (bytes_eq counter) names.counters) kind.Unknown n
  Ok (record { times = times; step = Tick place })

-- so many bytes from there on end within the device bytes
abbrev pub ends_within : ℕ → Number → ℕ → Bool
ends_within devices at size = within 0 devices at && nat_le (value at + size) devices

abbrev pub poked : Names → ℕ → Number → List ℕ → Result Line Stop
poked names n at hex = do
  form ← check (is_number at && is_hex hex) kind.Syntax n
  range ← check (ends_within names.devices at (poke_bytes hex).len) kind.Range n
  Ok (record { times = 1; step = Poke (value at) (poke_bytes hex) })

-- `poke AT HEX`
abbrev pub poke_line : Names → ℕ → List (List ℕ) → Result Line Stop
poke_line names n [] = refused kind.Syntax n
poke_line names n (at ∷ []) = refused kind.Syntax n
poke_line names n (at ∷ hex ∷ []) = poked names n (number_of at) hex
poke_line names n _ = refused kind.Syntax n

abbrev pub line_by : Names → ℕ → List ℕ → List (List ℕ) → Result Line Stop
line_by names n first others =
    if bytes_eq first (codes "run") then run_line n others
    else if bytes_eq first (codes "tick") then tick_line names n others
    else if bytes_eq first (codes "poke") then poke_line names n others
    else refused kind.Syntax n

-- what a line says
unfoldable pub line_of : Names → ℕ → List (List ℕ) → Result Line Stop
line_of names n [] = refused kind.Syntax n
line_of names n (first ∷ others) = line_by names n first others

-- the lines so far, and for how many moves they stand
pub record Said : Type 0 where
  pub lines : List Line
  pub moves : ℕ

-- one line more, while the moves are no more than most
abbrev pub with_line : ℕ → ℕ → Said → Line → Result Said Stop
with_line most n said line =
    if nat_le (said.moves + line.times) most
    then Ok (record { lines = said.lines ++ line ∷ []; moves = said.moves + line.times })
    else refused kind.TooMany n

abbrev pub next_said : Names → ℕ → Said → ℕ × List ℕ → Result Said Stop
next_said names most said next = do
  line ← line_of names next.0 (words next.1)
  with_line most next.0 said line

abbrev pub script_of : Names → ℕ → List ℕ → Result (List Line) Stop
script_of names most text = do
  said ← in_turn (next_said names most) (record { lines = []; moves = 0 }) (spoken_lines text)
  Ok said.lines
