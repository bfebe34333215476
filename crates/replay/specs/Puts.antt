-- How much of a text an output has taken.
use Rattle.std.specs.Prelude.{ℕ, ◌≤◌, List, Result, Ok, Err}
use Rattle.kes_outside.specs.Count.{Rose}
use Rattle.replay.specs.declared.ending.Ending.{Ending}
use Rattle.replay.specs.declared.ending.Ending.TheVariants.{OutputFailed, NoMemory}
use Rattle.replay.specs.Seen.{SinkSeen, Takes, TakesPrefix}

-- the whole of it
pub record PutsAll (text : List ℕ) (before after : SinkSeen) : Type 0 where
  pub takes : Takes text before after
  pub count : before.faults ≤ after.faults

-- the output failed, and has counted it, or there was no memory
abbrev pub IsWhy : Ending → SinkSeen → SinkSeen → Type 0
IsWhy OutputFailed before after = Rose before.faults after.faults
IsWhy NoMemory before after = before.faults ≤ after.faults

-- its first bytes, and why no more
pub record PutsInPart (ending : Ending) (text : List ℕ) (before after : SinkSeen) : Type 0 where
  pub takes : TakesPrefix text before after
  pub why : IsWhy ending before after

abbrev pub Puts : {A : Type 0} → List ℕ → SinkSeen → Result A Ending → SinkSeen → Type 0
Puts text before (Ok _) after = PutsAll text before after
Puts text before (Err ending) after = PutsInPart ending text before after
