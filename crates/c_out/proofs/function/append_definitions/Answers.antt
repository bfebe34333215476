use Rattle.std.proofs.Common.{arith}
use Rattle.csubset.specs.Text.Program.{function_text}
use Rattle.kes_text.proofs.NumberedLemmas.{numbered_step}
use Rattle.c_out.proofs.function.append_definitions.Goals as goal

pub loop-number-preserved : goal.loop-number-preserved
loop-number-preserved c =
    numbered_step function_text 0 _ _ _ _ _ _ _ _ c.loop-number-test.true c.index-functions-number.is (omega arith) c.loop-number.invariant c.in_ok-append_definition.ensures
