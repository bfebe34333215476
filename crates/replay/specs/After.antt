-- A machine after moves.
use Rattle.std.specs.Prelude.{List, [], ◌∷◌}
use Rattle.osek_core.specs.declared.event.Event.{Event}
use Rattle.osek_core.specs.declared.moves.Move.{Move}
use Rattle.b_machine.specs.Application.{Application}
use Rattle.b_machine.specs.State.{State}
use Rattle.b_machine.specs.Moves.{Machine}
use Rattle.b_machine.specs.Trace.{move, trace_from}

abbrev pub state_after : Application → State → List Move → State
state_after app s [] = s
state_after app s (m ∷ moves) = state_after app (move app s m).state moves

abbrev pub after : Machine → List Move → Machine
after machine moves = record machine { state = state_after machine.app machine.state moves }

-- what it shows on its way
abbrev pub shown_by : Machine → List Move → List Event
shown_by machine moves = trace_from machine.app machine.state moves
