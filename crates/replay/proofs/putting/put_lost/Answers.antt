use Rattle.script.specs.Names.{event_names}
use Rattle.replay.specs.Seen.{sink_seen}
use Rattle.replay.proofs.Lines.{none_lost_put}
use Rattle.replay.proofs.putting.put_lost.Goals as goal

pub returns-then-lost-eq0 : goal.returns-then-lost-eq0
returns-then-lost-eq0 g c =
    none_lost_put (event_names c.args.names.now) c.args.lost (sink_seen g.O.Sink.taken g.O.Sink.faults c.args.out.now) c.if-lost-eq0.true
