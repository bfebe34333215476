-- The lines are replayed, one after another, or it stops in one of them.
use Rattle.std.proofs.lemmas.Result.{err_from_is_err_and}
use Rattle.script.specs.Names.{event_names}
use Rattle.replay.specs.Seen.{sink_seen}
use Rattle.replay.proofs.Runs.{one_line_more, stopped_at_line}
use Rattle.replay.proofs.replaying.replay.Goals as goal

pub returns-in_err-replay_line : goal.returns-in_err-replay_line
returns-in_err-replay_line g c =
    let p = err_from_is_err_and c.from_residual.result c.from_residual.ensures.1 in
    let seen = sink_seen g.O.Sink.taken g.O.Sink.faults in
    rw (p.1, p.2)
    (stopped_at_line (event_names c.args.names.now) c.args.lines.now c.loop-line.line-index _ c.args.machine.now (seen c.args.out.now) c.loop-line.machine (seen c.loop-line.out) c.in_err-replay_line.field-0.0 (seen c.replay_line.new.out)
    c.loop-line-test.true c.loop-line.invariant c.in_err-replay_line.ensures)

pub loop-line-preserved : goal.loop-line-preserved
loop-line-preserved g c =
    let seen = sink_seen g.O.Sink.taken g.O.Sink.faults in
    one_line_more (event_names c.args.names.now) c.args.lines.now c.loop-line.line-index _ c.args.machine.now (seen c.args.out.now) c.loop-line.machine (seen c.loop-line.out) c.replay_line.new.machine (seen c.replay_line.new.out)
    c.loop-line-test.true c.loop-line.invariant c.in_ok-replay_line.ensures
