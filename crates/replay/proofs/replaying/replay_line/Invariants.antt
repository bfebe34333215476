-- The line's first moves are replayed.
use Rattle.std.proofs.Common.{replicate}
use Rattle.script.specs.Names.{event_names}
use Rattle.replay.specs.Replays.{IsReplayed}
use Rattle.replay.specs.Seen.{sink_seen}
use Rattle.replay.proofs.replaying.replay_line.Given as goal

abbrev pub invariant-loop-made : goal.invariant-loop-made
invariant-loop-made g l =
    let seen = sink_seen g.O.Sink.taken g.O.Sink.faults in
    IsReplayed (event_names l.names) (replicate l._made l.line.step) l.fn.machine (seen l.fn.out) l.machine (seen l.out)
