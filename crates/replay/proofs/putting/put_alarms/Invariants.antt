-- The lines of the first alarms are put.
use Rattle.std.proofs.Common.{map, take}
use Rattle.osek_core.specs.declared.event.Event.TheVariants.{Lost}
use Rattle.script.specs.Names.{event_names}
use Rattle.replay.specs.Puts.{PutsAll}
use Rattle.replay.specs.Seen.{sink_seen}
use Rattle.replay.specs.Text.{trace_text}
use Rattle.replay.proofs.putting.put_alarms.Given as goal

abbrev pub invariant-loop-alarm : goal.invariant-loop-alarm
invariant-loop-alarm g l =
    let seen = sink_seen g.O.Sink.taken g.O.Sink.faults in
    PutsAll (trace_text (event_names l.names) (map Lost (take l.alarm-index l.alarms))) (seen l.fn.out) (seen l.out)
