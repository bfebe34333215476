-- The line's moves are replayed, one after another, or it stops at one of them.
use Rattle.std.proofs.Common.{sym, ◌∙◌}
use Rattle.std.proofs.lemmas.Result.{err_from_is_err_and}
use Rattle.script.specs.Names.{event_names}
use Rattle.replay.specs.Seen.{sink_seen}
use Rattle.replay.proofs.Runs.{one_more, rested, stopped_at}
use Rattle.replay.proofs.replaying.replay_line.Goals as goal

pub returns-in_err-replay_move : goal.returns-in_err-replay_move
returns-in_err-replay_move g c =
    let p = err_from_is_err_and c.from_residual.result c.from_residual.ensures.1 in
    let seen = sink_seen g.O.Sink.taken g.O.Sink.faults in
    rw (p.1, p.2)
    (stopped_at (event_names c.args.names.now) c.args.line.step c.loop-made._made c.args.line.times c.args.machine.now (seen c.args.out.now) c.loop-made.machine (seen c.loop-made.out) c.in_err-replay_move.field-0.0 (seen c.replay_move.new.out)
    c.loop-made-test.true c.loop-made.invariant c.in_err-replay_move.ensures.replays)

pub returns-then-branch : goal.returns-then-branch
returns-then-branch g c =
    let seen = sink_seen g.O.Sink.taken g.O.Sink.faults in
    rested (event_names c.args.names.now) c.args.line.step c.loop-made._made c.args.line.times c.args.machine.now (seen c.args.out.now) c.loop-made.machine (seen c.loop-made.out) c.replay_move.new.machine (seen c.replay_move.new.out)
    c.loop-made-test.true c.loop-made.invariant c.in_ok-replay_move.ensures.replays (sym c.in_ok-replay_move.ensures.rests ∙ c.if-branch.true)

pub loop-made-preserved : goal.loop-made-preserved
loop-made-preserved g c =
    let seen = sink_seen g.O.Sink.taken g.O.Sink.faults in
    one_more (event_names c.args.names.now) c.args.line.step c.loop-made._made c.args.machine.now (seen c.args.out.now) c.loop-made.machine (seen c.loop-made.out) c.replay_move.new.machine (seen c.replay_move.new.out)
    c.loop-made.invariant c.in_ok-replay_move.ensures.replays
