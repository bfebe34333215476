-- What is reached in an application, or why it is refused.
use Rattle.std.specs.Prelude.{List, Option, Some, None, Result, Ok, Err}
use Rattle.kes_text.specs.declared.refusal.Refusal.{Refusal}
use Rattle.kes_text.specs.declared.refusal.Stop.{Stop}
use Rattle.kes_text.specs.declared.refusal.Stop.TheVariants.{Refused}
use Rattle.kes_text.specs.Answers.{◌>>=◌}
use Rattle.reaching.specs.declared.pair.Pair.{Pair}
use Rattle.mentions.specs.Setting.{Setting}
use Rattle.reach.specs.declared.reached.Reached.{Reached}
use Rattle.reach.specs.Pairs.{pairs_of}
use Rattle.reach.specs.Typings.{typings_of}
use Rattle.reach.specs.Calls.{calls_of, edges_of, places_of}
use Rattle.reach.specs.Starts.{starts_of}
use Rattle.reach.specs.Faults.{fault_of}

abbrev pub reached_by : Setting → List Pair → Reached
reached_by s pairs = record {
  pairs = pairs;
  typed = typings_of s.files pairs;
  calls = places_of (calls_of s pairs);
  starts = starts_of s.files pairs;
}

abbrev pub unless : {A : Type 0} → Option Refusal → A → Result A Stop
unless None x = Ok x
unless (Some fault) x = Err (Refused fault)

-- of pairs none of whose methods is refused
abbrev pub reached_or_refused : Setting → List Pair → Result Reached Stop
reached_or_refused s pairs = unless (fault_of (edges_of s pairs) (starts_of s.files pairs) (calls_of s pairs)) (reached_by s pairs)

unfoldable pub reach_of : Setting → Result Reached Stop
reach_of s = pairs_of s >>= reached_or_refused s
