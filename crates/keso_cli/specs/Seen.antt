-- What a contract sees of files at one moment, and what standard error takes of a line.
use Rattle.std.specs.Prelude.{ℕ, List, Option, ◌⊎◌}
use Rattle.kes_outside.specs.Contents.{Contents}
use Rattle.kes_outside.specs.Count.{Rose}
use Rattle.replay.specs.Seen.{SinkSeen, Takes, TakesPrefix}

pub record FilesSeen : Type 0 where
  pub contents : Option Contents
  pub faults : ℕ

abbrev pub files_seen : {F : Type 0} → (F → Option Contents) → (F → ℕ) → F → FilesSeen
files_seen contents faults files = record { contents = contents files; faults = faults files }

-- It has taken them all, or a put failed on the way.
abbrev pub TakesUnlessFailed : List ℕ → SinkSeen → SinkSeen → Type 0
TakesUnlessFailed bytes before after = Takes bytes before after ⊎ (Rose before.faults after.faults × TakesPrefix bytes before after)
