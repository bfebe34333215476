-- The text of a script: one line for each run of equal moves.
use Rattle.std.specs.Prelude.{ℕ, ◌+◌, ◌^◌, nat_le, ◌==◌, List, [], ◌∷◌, ◌++◌, take, codes, decimal, Option, Some, None, replicate, if◌then◌else◌}
use Rattle.std.specs.List.{flat_map}
use Rattle.osek_core.specs.declared.moves.Move.{Move}
use Rattle.osek_core.specs.declared.moves.Move.TheVariants.{Run, Tick, Poke}
use Rattle.osek_core.specs.Event.Text.{name_at}
use Rattle.script.specs.declared.line.Line.{Line}
use Rattle.script.specs.declared.names.Names.{Names}
use Rattle.script.specs.Hex.{hex_byte}

-- one line for both, where they stand for no more than 10^18 moves
abbrev pub summed : ℕ → ℕ → Move → Option Line
summed a b step = if nat_le (a + b) (10 ^ 18) then Some (record { times = a + b; step = step }) else None

-- two lines of steps, or of ticks of one counter, are one
abbrev pub both : ℕ → ℕ → Move → Move → Option Line
both a b Run Run = summed a b Run
both a b (Tick c) (Tick d) = if c == d then summed a b (Tick c) else None
both a b _ _ = None

-- what stands before the line that is being written, once the next line is there
abbrev pub written : Line → Option Line → List Line
written last None = last ∷ []
written last (Some one) = []

-- the line that is being written then
abbrev pub going_on : Line → Option Line → Line
going_on next None = next
going_on next (Some one) = one

-- the lines from the one that is being written on
abbrev pub joined_from : Line → List Line → List Line
joined_from last [] = last ∷ []
joined_from last (next ∷ lines) =
    let one = both last.times next.times last.step next.step in written last one ++ joined_from (going_on next one) lines

-- each line added to the one before it where it can be
abbrev pub joined : List Line → List Line
joined [] = []
joined (first ∷ lines) = joined_from first lines

abbrev pub step_text : Names → ℕ → Move → List ℕ
step_text names times Run = codes "run " ++ decimal times
step_text names times (Tick counter) = codes "tick " ++ name_at names.counters counter ++ codes " " ++ decimal times
step_text names times (Poke at bytes) = codes "poke " ++ decimal at ++ codes " " ++ flat_map hex_byte (take bytes.len bytes.bytes)

abbrev pub line_text : Names → Line → List ℕ
line_text names line = step_text names line.times line.step ++ codes "\n"

abbrev pub script_text : Names → List Line → List ℕ
script_text names lines = flat_map (line_text names) (joined lines)

-- the moves for which lines stand
abbrev pub moves_of : List Line → List Move
moves_of lines = flat_map (λ line. replicate line.times line.step) lines
