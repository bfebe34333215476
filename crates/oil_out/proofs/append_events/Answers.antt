use Rattle.std.proofs.Common.{arith}
use Rattle.oil_out.specs.OilText.{event_text}
use Rattle.kes_text.proofs.NumberedLemmas.{numbered_step}
use Rattle.oil_out.proofs.append_events.Goals as goal

pub loop-place-preserved : goal.loop-place-preserved
loop-place-preserved c =
    numbered_step event_text 0 _ _ _ _ _ _ _ _ c.loop-place-test.true c.index-events-place.is (omega arith) c.loop-place.invariant c.in_ok-append_event.ensures
