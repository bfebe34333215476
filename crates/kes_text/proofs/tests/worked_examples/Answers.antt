use Rattle.std.proofs.Common.{refl}
use Rattle.std.specs.Fmt.{digits}
use Rattle.percent_encoding.specs.Percent.{percent_encode_byte}
use Rattle.kes_text.proofs.tests.worked_examples.Goals as goal

pub returns-clause-percent : goal.returns-clause-percent
unfolding percent_encode_byte
returns-clause-percent c = refl

pub returns-clause-edges : goal.returns-clause-edges
unfolding percent_encode_byte
returns-clause-edges c = refl

pub returns-clause-refusal : goal.returns-clause-refusal
unfolding digits
returns-clause-refusal c = refl
