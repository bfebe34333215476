-- Moves that are replayed on a machine: it makes them, and the output takes the lines of what they show.
use Rattle.std.specs.Prelude.{◌≡◌, List, Result, Ok, Err}
use Rattle.osek_core.specs.declared.moves.Move.{Move}
use Rattle.osek_core.specs.Event.Text.{Names}
use Rattle.b_machine.specs.Moves.{Machine}
use Rattle.replay.specs.declared.ending.Ending.{Ending}
use Rattle.replay.specs.After.{after, shown_by}
use Rattle.replay.specs.Puts.{PutsAll, PutsInPart}
use Rattle.replay.specs.Seen.{SinkSeen}
use Rattle.replay.specs.Text.{trace_text}

pub record IsReplayed (names : Names) (moves : List Move) (m : Machine) (before : SinkSeen) (left : Machine) (now : SinkSeen) : Type 0 where
  pub machine : left ≡ after m moves
  pub lines : PutsAll (trace_text names (shown_by m moves)) before now

-- where it stops on its way, the output has taken the first bytes of these lines
abbrev pub Replays : {A : Type 0} → Names → List Move → Machine → SinkSeen → Result A Ending → Machine → SinkSeen → Type 0
Replays names moves m before (Ok _) left now = IsReplayed names moves m before left now
Replays names moves m before (Err ending) left now = PutsInPart ending (trace_text names (shown_by m moves)) before now
