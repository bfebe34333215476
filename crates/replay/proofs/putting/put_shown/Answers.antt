use Rattle.std.proofs.lemmas.Result.{err_from_is_err_and}
use Rattle.script.specs.Names.{event_names}
use Rattle.replay.specs.Seen.{sink_seen}
use Rattle.replay.proofs.Lines.{shown_puts, shown_stops}
use Rattle.replay.proofs.putting.put_shown.Goals as goal

pub returns-in_err-put_if_shown : goal.returns-in_err-put_if_shown
returns-in_err-put_if_shown g c =
    let p = err_from_is_err_and c.from_residual.result c.from_residual.ensures.1 in
    let seen = sink_seen g.O.Sink.taken g.O.Sink.faults in
    rw (p.1, p.2)
    (shown_stops (event_names c.args.names.now) c.args.shown.now c.in_err-put_if_shown.field-0.0 (seen c.args.out.now) (seen c.put_if_shown.new.out) c.in_err-put_if_shown.ensures)

pub returns : goal.returns
returns g c =
    let seen = sink_seen g.O.Sink.taken g.O.Sink.faults in
    shown_puts (event_names c.args.names.now) c.args.shown.now (seen c.args.out.now) (seen c.put_if_shown.new.out) (seen c.put_lost.new.out) c.put_lost.result
    c.in_ok-put_if_shown.ensures c.put_lost.ensures
