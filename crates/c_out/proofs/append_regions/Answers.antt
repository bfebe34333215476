use Rattle.std.proofs.Common.{arith}
use Rattle.csubset.specs.Text.Program.{region_line}
use Rattle.kes_text.proofs.NumberedLemmas.{numbered_step}
use Rattle.c_out.proofs.append_regions.Goals as goal

pub loop-number-preserved : goal.loop-number-preserved
loop-number-preserved c =
    numbered_step region_line 0 _ _ _ _ _ _ _ _ c.loop-number-test.true c.index-regions-number.is (omega arith) c.loop-number.invariant c.in_ok-append_region_line.ensures
