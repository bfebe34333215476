use Rattle.std.proofs.Common.{arith}
use Rattle.mapfile.specs.MapText.{method_line}
use Rattle.kes_text.proofs.NumberedLemmas.{numbered_step}
use Rattle.mapfile.proofs.append_methods.Goals as goal

pub loop-number-preserved : goal.loop-number-preserved
loop-number-preserved c =
    numbered_step method_line 0 _ _ _ _ _ _ _ _ c.loop-number-test.true c.index-methods-number.is (omega arith) c.loop-number.invariant c.in_ok-append_method.ensures
