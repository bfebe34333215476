use Rattle.std.proofs.Common.{refl, arith}
use Rattle.mapfile.specs.MapText.{region_line}
use Rattle.kes_text.proofs.NumberedLemmas.{numbered_step}
use Rattle.mapfile.proofs.append_regions.Goals as goal

pub loop-number-preserved : goal.loop-number-preserved
loop-number-preserved c =
    numbered_step region_line 0 _ _ _ _ _ _ _ _ c.loop-number-test.true refl (omega arith) c.loop-number.invariant c.in_ok-append_region.ensures
