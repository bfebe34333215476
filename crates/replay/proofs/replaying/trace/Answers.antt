-- A replay from the first state.
use Rattle.std.proofs.lemmas.Result.{err_from_is_err_and}
use Rattle.script.specs.Names.{event_names}
use Rattle.script.specs.Writing.{moves_of}
use Rattle.replay.specs.Seen.{sink_seen}
use Rattle.replay.proofs.Parts.{stops_before}
use Rattle.replay.proofs.Runs.{moves_still, trace_puts}
use Rattle.replay.proofs.replaying.trace.Goals as goal

pub returns-in_err-machine : goal.returns-in_err-machine
returns-in_err-machine g c =
    let p = err_from_is_err_and c.from_residual.result c.from_residual.ensures.1 in
    rw (p.1, p.2) (stops_before _ _)

pub replay-requires-clause-moves : goal.replay-requires-clause-moves
replay-requires-clause-moves g c = moves_still c.args.lines.now c.args.program c.in_ok-machine.machine c.in_ok-machine.ensures c.requires.moves

pub returns : goal.returns
returns g c =
    let seen = sink_seen g.O.Sink.taken g.O.Sink.faults in
    trace_puts (event_names c.args.names.now) (moves_of c.args.lines.now) c.args.program c.in_ok-machine.machine (seen c.args.out.now) c.replay.result c.replay.new.machine (seen c.replay.new.out)
    c.in_ok-machine.ensures c.replay.ensures
