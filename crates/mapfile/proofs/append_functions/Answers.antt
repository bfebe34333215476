use Rattle.std.proofs.Common.{arith}
use Rattle.mapfile.specs.MapText.{function_lines}
use Rattle.kes_text.proofs.NumberedLemmas.{numbered_step}
use Rattle.mapfile.proofs.append_functions.Goals as goal

pub loop-number-preserved : goal.loop-number-preserved
loop-number-preserved c =
    numbered_step function_lines 0 _ _ _ _ _ _ _ _ c.loop-number-test.true c.index-functions-number.is (omega arith) c.loop-number.invariant c.in_ok-append_function.ensures
