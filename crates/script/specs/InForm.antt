-- Names and lines in form: those that the text of a script can have.
use Rattle.std.specs.Prelude.{◌≡◌, ◌≢◌, ℕ, ◌+◌, ◌^◌, ◌<◌, ◌≤◌, List, length, drop, All, AllPairs}
use Rattle.osek_core.specs.declared.moves.Move.{Move}
use Rattle.osek_core.specs.declared.moves.Move.TheVariants.{Run, Tick, Poke}
use Rattle.osek_core.specs.declared.moves.PokeBytes.{PokeBytes}
use Rattle.script.specs.declared.line.Line.{Line}
use Rattle.script.specs.declared.names.Names.{Names}

-- a word of a line: one byte or more, each above the blank; a name of a letter and then letters, digits or `_` is one
pub record IsWord (word : List ℕ) : Type 0 where
  pub some : 1 ≤ length word
  pub each : All (λ byte. 32 < byte) word

-- each counter has a name of its own, and the number of device bytes has 32 bits
pub record AreNames (names : Names) : Type 0 where
  pub counters : All IsWord names.counters
  pub differ : AllPairs (λ first second. first ≢ second) names.counters
  pub devices : names.devices < 2 ^ 32

-- one to eight bytes, and zeros behind them
pub record IsPoked (poked : PokeBytes) : Type 0 where
  pub at_least : 1 ≤ poked.len
  pub at_most : poked.len ≤ 8
  pub all : length poked.bytes ≡ 8
  pub each : All (λ byte. byte < 2 ^ 8) poked.bytes
  pub zeros : All (λ byte. byte ≡ 0) (drop poked.len poked.bytes)

-- the bytes of a poke end within the device bytes, and it comes once
pub record IsPoke (names : Names) (times at : ℕ) (poked : PokeBytes) : Type 0 where
  pub once : times ≡ 1
  pub within : at + poked.len ≤ names.devices
  pub bytes : IsPoked poked

-- so many moves of a kind
abbrev pub AreMoves : Names → ℕ → Move → Type 0
AreMoves names times Run = Unit {0}
AreMoves names times (Tick counter) = counter < length names.counters
AreMoves names times (Poke at poked) = IsPoke names times at poked

pub record IsLine (names : Names) (line : Line) : Type 0 where
  pub at_least : 1 ≤ line.times
  pub at_most : line.times ≤ 10 ^ 18
  pub moves : AreMoves names line.times line.step

pub record AreInForm (names : Names) (lines : List Line) : Type 0 where
  pub named : AreNames names
  pub each : All (IsLine names) lines
