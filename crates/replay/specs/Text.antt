-- The text of events: a line for each.
use Rattle.std.specs.Prelude.{ℕ, List, ◌++◌, codes}
use Rattle.std.specs.List.{flat_map}
use Rattle.osek_core.specs.declared.event.Event.{Event}
use Rattle.osek_core.specs.Event.Text.{Names, event_line}

abbrev pub event_text : Names → Event → List ℕ
event_text names event = event_line names event ++ codes "\n"

abbrev pub trace_text : Names → List Event → List ℕ
trace_text names events = flat_map (event_text names) events
