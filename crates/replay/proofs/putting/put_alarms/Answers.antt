use Rattle.std.proofs.lemmas.Result.{err_from_is_err_and}
use Rattle.script.specs.Names.{event_names}
use Rattle.replay.specs.Seen.{sink_seen}
use Rattle.replay.proofs.Lines.{alarms_stop}
use Rattle.replay.proofs.putting.put_alarms.Goals as goal

pub returns-in_err-put_event : goal.returns-in_err-put_event
returns-in_err-put_event g c =
    let p = err_from_is_err_and c.from_residual.result c.from_residual.ensures.1 in
    let seen = sink_seen g.O.Sink.taken g.O.Sink.faults in
    rw (p.1, p.2)
    (alarms_stop (event_names c.args.names.now) c.args.alarms.now c.loop-alarm.alarm-index c.in_err-put_event.field-0.0 (seen c.args.out.now) (seen c.loop-alarm.out) (seen c.put_event.new.out)
    c.loop-alarm-test.true c.loop-alarm.invariant c.in_err-put_event.ensures)
