-- The moves of the first lines are replayed.
use Rattle.std.proofs.Common.{take}
use Rattle.script.specs.Names.{event_names}
use Rattle.script.specs.Writing.{moves_of}
use Rattle.replay.specs.Replays.{IsReplayed}
use Rattle.replay.specs.Seen.{sink_seen}
use Rattle.replay.proofs.replaying.replay.Given as goal

abbrev pub invariant-loop-line : goal.invariant-loop-line
invariant-loop-line g l =
    let seen = sink_seen g.O.Sink.taken g.O.Sink.faults in
    IsReplayed (event_names l.names) (moves_of (take l.line-index l.lines)) l.fn.machine (seen l.fn.out) l.machine (seen l.out)
