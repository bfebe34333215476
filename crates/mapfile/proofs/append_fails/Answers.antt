use Rattle.std.proofs.Common.{refl, arith}
use Rattle.mapfile.specs.MapText.{fail_line}
use Rattle.kes_text.proofs.NumberedLemmas.{numbered_step}
use Rattle.mapfile.proofs.append_fails.Goals as goal

pub loop-place-preserved : goal.loop-place-preserved
loop-place-preserved c =
    numbered_step fail_line 1 _ _ _ _ _ _ _ _ c.loop-place-test.true refl (omega arith) c.loop-place.invariant c.in_ok-append_fail.ensures
